-- One task's jobs in a run, apart from any table: what they may take of the ticks from s on, where s is a tick by which
-- every job that was ready before has finished.
use mathlib.Core.Path.{◌≡◌, refl, ap, ◌∙◌}
use mathlib.Core.Logic.{◌⊎◌, inl, inr}
use Prim.Native.Nat.{ℕ, zero, suc, ◌+◌, ◌-◌, ◌*◌, ◌/◌, ◌%◌, ◌≤◌, ◌<◌, zero-le, min}
use native.Mathlib.Nat.{
  le_refl,
  le_dest,
  add-zero,
  add-suc,
  suc-mul,
  add-mul,
  mul-le-mul_right,
  le_of_mul-le-mul_right,
  add-mul-mod_self_right,
  lt-div-mul-add,
  div-mul-le_self,
}
use native.Mathlib.Decide.{dec_lt, ℕ_discrete}
use native.Mathlib.Omega.{arith}
use Rattle.table.specs.Sum.{sum}
use Rattle.table.proofs.Sum.{sum-le, sum-zero, sum-term, sum-swap, sum-split, sum_grow}
use Rattle.periods.specs.Phase.{held, ceil}
use Rattle.periods.proofs.Congruence.{Steps, step}
use Rattle.periods.proofs.Charge.{imp, rel, imp-ge, ceil-gt}
use Rattle.analysis.specs.Choice.{when}
use Rattle.analysis.proofs.Choice.{when-yes, when-le}

-- what a tick does for one task: nothing, or its job k
pub data Look : Type 0 where
  none : Look
  one : ℕ → Look

-- 1 where it serves job k
unfoldable pub is : ℕ → Look → ℕ
is k none = 0
is k (one l) = when (ℕ_discrete l k) 1

-- 1 where it serves any job
unfoldable pub any : Look → ℕ
any none = 0
any (one l) = 1

-- The rules that bear on one task: T, O and J, the tick e of the first event, and of each job when it is ready and what
-- it needs; `look` is what each tick does for the task
pub record Stream : Type 0 where
  pub T : ℕ
  pub O : ℕ
  pub J : ℕ
  pub e : ℕ
  pub ready : ℕ → ℕ
  pub need : ℕ → ℕ
  pub look : ℕ → Look
  pub arrived : (k : ℕ) → e + k * T + O ≤ ready k
  pub prompt : (k : ℕ) → ready k ≤ e + k * T + O + J
  pub in_order : (k : ℕ) → ready k ≤ ready (suc k)
  pub is_ready : (v k : ℕ) → look v ≡ one k → ready k ≤ v
  pub unfinished : (v k : ℕ) → look v ≡ one k → sum v (λ x. is k (look x)) < need k
  pub ordered : (v k : ℕ) → look v ≡ one k → (l : ℕ) → l < k → sum v (λ x. is l (look x)) ≡ need l

-- when job k arrives
unfoldable pub arrives : Stream → ℕ → ℕ
arrives σ k = σ.e + k * σ.T + σ.O

-- the ticks before t that serve job k
unfoldable pub done : Stream → (k t : ℕ) → ℕ
done σ k t = sum t (λ v. is k (σ.look v))

-- the ticks among the d from s on that serve job k, and those that serve any job
unfoldable pub took_by : Stream → (s k d : ℕ) → ℕ
took_by σ s k d = sum d (λ v. is k (σ.look (s + v)))

unfoldable pub took : Stream → (s d : ℕ) → ℕ
took σ s d = sum d (λ v. any (σ.look (s + v)))

is-or : (k : ℕ) (l : Look) → (is k l ≡ 0) ⊎ (l ≡ one k)
unfolding is when
is-or k none = inl refl
is-or k (one x) = go (ℕ_discrete x k)
  where
    go : (d : Dec (x ≡ k)) → (when d 1 ≡ 0) ⊎ (one x ≡ one k)
    go (yes e) = inr (ap one e)
    go (no f) = inl refl

is_le : (k : ℕ) (l : Look) → is k l ≤ 1
unfolding is
is_le k none = zero-le
is_le k (one x) = when-le (ℕ_discrete x k) 1

-- a tick serves one of the jobs that it may serve
any-is : (K : ℕ) (l : Look) → ((x : ℕ) → l ≡ one x → x < K) → any l ≤ sum K (λ x. is x l)
unfolding any is
any-is K none h = zero-le
any-is K (one x) h =
    let t : when (ℕ_discrete x x) 1 ≤ sum K (λ y. when (ℕ_discrete x y) 1) = sum-term K (λ y. when (ℕ_discrete x y) 1) x (h x refl) in
    let o : when (ℕ_discrete x x) 1 ≡ 1 = when-yes (ℕ_discrete x x) 1 refl in
    omega arith

module _ (σ : Stream) where
  pub done-le : (k t : ℕ) → done σ k t ≤ σ.need k
  unfolding done sum
  done-le k zero = zero-le
  done-le k (suc t) = go (done-le k t) (is-or k (σ.look t))
    where
      go : done σ k t ≤ σ.need k → (is k (σ.look t) ≡ 0) ⊎ (σ.look t ≡ one k) → done σ k t + is k (σ.look t) ≤ σ.need k
      go h (inl z) = omega arith
      go h (inr l) = omega (arith, σ.unfinished t k l, is_le k (σ.look t))

  -- a job is served only once it is ready, and one tick at a time
  pub done-since : (k t : ℕ) → done σ k t ≤ t - σ.ready k
  unfolding done sum
  done-since k zero = zero-le
  done-since k (suc t) = go (done-since k t) (is-or k (σ.look t))
    where
      go : done σ k t ≤ t - σ.ready k → (is k (σ.look t) ≡ 0) ⊎ (σ.look t ≡ one k) → done σ k t + is k (σ.look t) ≤ suc t - σ.ready k
      go h (inl z) = omega arith
      go h (inr l) = omega (arith, σ.is_ready t k l, is_le k (σ.look t))

  -- a later job is ready no earlier
  ready-mono : (k d : ℕ) → σ.ready k ≤ σ.ready (k + d)
  ready-mono k zero = rw (add-zero k) (le_refl (σ.ready k))
  ready-mono k (suc d) = rw (add-suc k d) (omega (arith, ready-mono k d, σ.in_order (k + d)))

  -- what was done by s, and what is done from s on
  done-split : (s k d : ℕ) → done σ k (s + d) ≡ done σ k s + took_by σ s k d
  unfolding done took_by
  done-split s k d = sum-split s d (λ v. is k (σ.look v))

  took_by-le : (s k d : ℕ) → took_by σ s k d ≤ σ.need k
  took_by-le s k d = omega (arith, done-split s k d, done-le k (s + d))

  -- no tick serves a job before it arrives
  took_by-arrival : (s k d : ℕ) → took_by σ s k d ≤ s + d - arrives σ k
  unfolding took_by sum arrives
  took_by-arrival s k zero = zero-le
  took_by-arrival s k (suc d) = go (took_by-arrival s k d) (is-or k (σ.look (s + d)))
    where
      go : took_by σ s k d ≤ s + d - arrives σ k → (is k (σ.look (s + d)) ≡ 0) ⊎ (σ.look (s + d) ≡ one k) → took_by σ s k d + is k (σ.look (s + d)) ≤ s + suc d - arrives σ k
      go h (inl z) = omega arith
      go h (inr l) = omega (arith, σ.is_ready (s + d) k l, σ.arrived k, is_le k (σ.look (s + d)))

  -- the ticks that the task takes are those of the jobs that it may have served
  took-jobs : (s d K : ℕ) → ((v x : ℕ) → v < d → σ.look (s + v) ≡ one x → x < K) → took σ s d ≤ sum K (λ k. took_by σ s k d)
  unfolding took took_by
  took-jobs s d K h =
      let each : took σ s d ≤ sum d (λ v. sum K (λ x. is x (σ.look (s + v)))) = sum-le d (λ v l. any-is K (σ.look (s + v)) (λ x e. h v x l e)) in
      omega (arith, sum-swap d K (λ v x. is x (σ.look (s + v))))

-- every job that was ready before s has finished by s
abbrev pub Clear : Stream → ℕ → Type 0
Clear σ s = (k : ℕ) → σ.ready k < s → done σ k s ≡ σ.need k

module _ (σ : Stream) (s : ℕ) (clear : Clear σ s) where
  -- nothing is left to take for a job that has finished by s
  took_by-none : (k d : ℕ) → σ.ready k < s → took_by σ s k d ≡ 0
  took_by-none k d l = omega (arith, clear k l, done-split σ s k d, done-le σ k (s + d))

  jobs-none : (K d : ℕ) → σ.ready K < s → sum (suc K) (λ k. took_by σ s k d) ≡ 0
  jobs-none K d l = sum-zero (suc K) (λ k b. took_by-none k d (earlier k b))
    where
      earlier : (k : ℕ) → k < suc K → σ.ready k < s
      earlier k b =
          let x = le_dest {n = k} {m = K} (omega arith) in
          let e : σ.ready (k + x.0) ≡ σ.ready K = ap σ.ready x.1 in
          omega (arith, ready-mono σ k x.0)

split-mul : (h N T : ℕ) → h ≤ N → N * T ≡ h * T + (N - h) * T
split-mul h N T l = ap (λ (x : ℕ). x * T) (omega arith) ∙ add-mul h (N - h) T

-- a job that arrives before d, N periods after φ less the h that are held, is one of the jobs by d
pub counted : {T : ℕ} → 0 < T → (h N φ d : ℕ) → φ + N * T < d + h * T → N < h + ceil (d - φ) T
counted {T} positive h N φ d l =
    elim (dec_lt N h) [
      | yes b ↦ omega arith
      | no b ↦
          let later : N - h < ceil (d - φ) T = ceil-gt positive (N - h) (d - φ) (omega (arith, split-mul h N T (omega arith))) in
          omega arith
    ]

-- Arrivals of the task fall φ after s, give or take whole periods
abbrev pub Aligned : Stream → (s φ : ℕ) → Type 0
Aligned σ s φ = (σ.e + σ.O) % σ.T ≡ (s + φ) % σ.T

-- the jobs that may be held back to s
abbrev pub held_to : Stream → ℕ → ℕ
held_to σ φ = held σ.T σ.J φ

-- job k is job N counted from the first that can be ready at s or later
abbrev pub Nth : Stream → (s φ k N : ℕ) → Type 0
Nth σ s φ k N = arrives σ k + held_to σ φ * σ.T ≡ s + φ + N * σ.T

-- A job that is ready at s or later has such a number: its arrival is φ after s but for whole periods, and its jitter
-- reaches back over no more of them than are held
pub index : (σ : Stream) → 0 < σ.T → (s φ : ℕ) → Aligned σ s φ → (k : ℕ) → s ≤ σ.ready k → Steps σ.T (arrives σ k + held_to σ φ * σ.T) (s + φ)
unfolding arrives held
index σ positive s φ aligned k l =
    let h : ℕ = (σ.J + φ) / σ.T in
    let whole : σ.e + k * σ.T + σ.O + h * σ.T ≡ σ.e + σ.O + (k + h) * σ.T = omega (arith, add-mul k h σ.T) in
    step
    (ap (λ (x : ℕ). x % σ.T) whole ∙ add-mul-mod_self_right (σ.e + σ.O) (k + h) σ.T ∙ aligned)
    (omega (arith, σ.prompt k, lt-div-mul-add {a = σ.J + φ} positive))

-- No job needs more than C
module _ (σ : Stream) (positive : 0 < σ.T) (s : ℕ) (clear : Clear σ s) (φ : ℕ) (aligned : Aligned σ s φ) (C : ℕ) (most : (k : ℕ) → σ.need k ≤ C) where
  -- the jobs before job N take at most C each
  before : (K N d : ℕ) → Nth σ s φ K N → sum K (λ k. took_by σ s k d) ≤ N * C
  unfolding sum arrives
  before zero N d e = zero-le
  before (suc K) N d e = go (before K) (dec_lt (σ.ready K) s)
    where
      go : ((N d : ℕ) → Nth σ s φ K N → sum K (λ k. took_by σ s k d) ≤ N * C) → Dec (σ.ready K < s) → sum K (λ k. took_by σ s k d) + took_by σ s K d ≤ N * C
      go rest (yes l) = omega (arith, jobs-none σ s clear K d l)
      go rest (no l) =
          let x : Steps σ.T (arrives σ K + held_to σ φ * σ.T) (s + φ) = index σ positive s φ aligned K (omega arith) in
          let fewer : suc x.N ≤ N = le_of_mul-le-mul_right {k = σ.T} (omega (arith, x.is, suc-mul x.N σ.T, suc-mul K σ.T)) positive in
          let mine : took_by σ s K d ≤ C = omega (arith, took_by-le σ s K d, most K) in
          omega (arith, rest x.N d x.is, mul-le-mul_right C fewer, suc-mul x.N C)

  -- while job N has not finished, no later job is served, and it has not taken its C
  pub took-unfinished : (k N d : ℕ) → Nth σ s φ k N → done σ k (s + d) < σ.need k → took σ s d < suc N * C
  unfolding sum done
  took-unfinished k N d e l =
      omega (arith, took-jobs σ s d (suc k) up_to, before k N d e, done-split σ s k d, most k, suc-mul N C)
    where
      up_to : (v x : ℕ) → v < d → σ.look (s + v) ≡ one x → x < suc k
      up_to v x b o =
          elim (dec_lt k x) [
            | yes later ↦
                absurd (omega (arith, σ.ordered (s + v) x o k later, sum_grow (s + v) (s + d) (λ y. is k (σ.look y)) (omega arith)))
            | no h ↦ omega arith
          ]

  -- a job that was ready before the window's end and has not finished is among those released
  pub took-released : (k d : ℕ) → σ.ready k < s + d → done σ k (s + d) < σ.need k → took σ s d < held_to σ φ * C + rel σ.T C (d - φ)
  unfolding rel arrives
  took-released k d r l =
      omega (arith, took-unfinished k x.N d x.is l, mul-le-mul_right C few, add-mul (held_to σ φ) (ceil (d - φ) σ.T) C)
    where
      late : s ≤ σ.ready k
      late =
          elim (dec_lt (σ.ready k) s) [
            | yes early ↦ absurd (omega (arith, clear k early, done-split σ s k d))
            | no h ↦ omega arith
          ]

      x : Steps σ.T (arrives σ k + held_to σ φ * σ.T) (s + φ)
      x = index σ positive s φ aligned k late

      few : suc x.N ≤ held_to σ φ + ceil (d - φ) σ.T
      few = counted positive (held_to σ φ) x.N φ d (omega (arith, x.is, σ.arrived k))

  -- Where job K is the last to arrive before the window's end: the jobs before it take C each, and it takes no more than
  -- the ticks since its arrival
  took-last : (K d : ℕ) → arrives σ K < s + d → s + d ≤ arrives σ K + σ.T → took σ s d ≤ held_to σ φ * C + imp σ.T C (d - φ)
  unfolding sum arrives
  took-last K d lo hi = go (dec_lt (σ.ready K) s)
    where
      up_to : (v x : ℕ) → v < d → σ.look (s + v) ≡ one x → x < suc K
      up_to v x b o =
          elim (dec_lt K x) [
            | yes later ↦
                absurd (omega (arith, σ.is_ready (s + v) x o, σ.arrived x, mul-le-mul_right σ.T later, suc-mul K σ.T))
            | no h ↦ omega arith
          ]

      all : took σ s d ≤ sum K (λ k. took_by σ s k d) + took_by σ s K d
      all = took-jobs σ s d (suc K) up_to

      mine : took_by σ s K d ≤ C
      mine = omega (arith, took_by-le σ s K d, most K)

      by : (N : ℕ) → Nth σ s φ K N → Dec (N < held_to σ φ) → took σ s d ≤ held_to σ φ * C + imp σ.T C (d - φ)
      by N e (yes h) = omega (arith, all, mine, before K N d e, mul-le-mul_right C h, suc-mul N C)
      by N e (no h) =
          let g : ℕ = N - held_to σ φ in
          let z : ℕ = s + d - arrives σ K in
          let end : g * σ.T + z ≡ d - φ = omega (arith, split-mul (held_to σ φ) N σ.T (omega arith)) in
          let last : g * C + min z C ≤ imp σ.T C (d - φ) = rw end at (imp-ge positive C g z (omega arith)) in
          omega (arith, all, mine, before K N d e, took_by-arrival σ s K d, split-mul (held_to σ φ) N C (omega arith))

      go : Dec (σ.ready K < s) → took σ s d ≤ held_to σ φ * C + imp σ.T C (d - φ)
      go (yes l) = omega (arith, all, jobs-none σ s clear K d l)
      go (no l) =
          let x : Steps σ.T (arrives σ K + held_to σ φ * σ.T) (s + φ) = index σ positive s φ aligned K (omega arith) in
          by x.N x.is (dec_lt x.N (held_to σ φ))

  pub took-imposed : (d : ℕ) → took σ s d ≤ held_to σ φ * C + imp σ.T C (d - φ)
  unfolding arrives sum
  took-imposed d = go (dec_lt (σ.e + σ.O) (s + d))
    where
      go : Dec (σ.e + σ.O < s + d) → took σ s d ≤ held_to σ φ * C + imp σ.T C (d - φ)
      go (yes l) =
          let r : ℕ = s + d - 1 - (σ.e + σ.O) in
          took-last (r / σ.T) d
          (omega (arith, div-mul-le_self r σ.T))
          (omega (arith, lt-div-mul-add {a = r} positive))
      go (no l) = omega (arith, took-jobs σ s d 0 (λ v x b o. absurd (omega (arith, σ.is_ready (s + v) x o, σ.arrived x))))
