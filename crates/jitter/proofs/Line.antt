-- A line below what the rivals request, rival by rival: each by its load, from its jitter on, or by what it requests at t. Every
-- completion from t on is at least where B + C and the line meet t; and where the rivals' load fills the major frame there is none.
use mathlib.Core.Path.{◌≡◌, ap, sym, ◌∙◌}
use Prim.Native.Nat.{ℕ, zero, suc, ◌+◌, ◌*◌, ◌-◌, ◌/◌, ◌^◌, ◌≤◌, ◌<◌}
use native.Mathlib.Nat.{le_refl, mul-le-mul, mul-le-mul_left, mul-le-mul_right, mul-add, add-mul, mul_assoc, mul_comm, mul-sub}
use native.Mathlib.Numerals.{add-one}
use native.Mathlib.Decide.{ℕ_discrete}
use native.Mathlib.Omega.{arith}
use Rattle.table.specs.Sum.{sum}
use Rattle.table.specs.Table.{Table, transactions, period, jitter, blocking, time}
use Rattle.table.specs.Kept.{Kept}
use Rattle.table.proofs.Sum.{sum-next}
use Rattle.table.proofs.Ranges.{kept-period, jitter-lt}
use Rattle.periods.specs.Phase.{ceil}
use Rattle.periods.proofs.Charge.{ceil-le}
use Rattle.analysis.specs.Choice.{when, unless}
use Rattle.analysis.specs.Rival.{urgent?}
use Rattle.jitter.specs.Request.{request}
use Rattle.jitter.specs.Plain.{Single, request_of, rival_request, workload, Completes, Never}
use Rattle.jitter.specs.Start.{Sound, rival_load, load, Line}
use Rattle.jitter.proofs.Ceil.{ceil-covers}
use Rattle.jitter.proofs.Alone.{is_task, runs-alone, whole-frame}
use Rattle.jitter.proofs.Start.{rival-rises}

-- what is chosen on both sides in one way keeps its order
chosen : {A B : Type 0} (d : Dec A) (e : Dec B) (x y p q : ℕ) → x * p ≤ q * y → x * unless d (when e p) ≤ q * unless d (when e y)
unfolding when unless
chosen (yes a) e x y p q l = omega arith
chosen (no f) (yes b) x y p q l = l
chosen (no f) (no g) x y p q l = omega arith

module _ {tab : Table} (kept : Kept tab) where
  -- in a major frame's time the task requests at s what it demands in one, s + J times
  pub load-under : (u : ℕ) {i : ℕ} → i < transactions tab → (s : ℕ) → (s + jitter tab i 0) * rival_load tab u i ≤ tab.frame * rival_request tab u s i
  unfolding rival_load rival_request request_of request
  load-under u {i} h s =
      let T = period tab i in
      let C = time tab i 0 0 in
      let n = tab.frame / T in
      let y = s + jitter tab i 0 in
      let jobs : y * (n * C) ≤ ceil y T * T * (n * C) = mul-le-mul_right (n * C) (ceil-covers (kept-period kept h) y) in
      let same : ceil y T * T * (n * C) ≡ tab.frame * (ceil y T * C) =
      mul_assoc (ceil y T) T (n * C)
      ∙ ap (λ (x : ℕ). ceil y T * x) (sym (mul_assoc T n C) ∙ ap (λ (x : ℕ). x * C) (mul_comm T n ∙ whole-frame kept h))
      ∙ sym (mul_assoc (ceil y T) tab.frame C)
      ∙ ap (λ (x : ℕ). x * C) (mul_comm (ceil y T) tab.frame)
      ∙ mul_assoc tab.frame (ceil y T) C in
      chosen (ℕ_discrete i u) (urgent? tab u 0 i 0) y (ceil y T * C) (n * C) tab.frame (omega arith)

  -- ---- a line grows by one task

  module _ {u t : ℕ} where
    pub line-none : Line tab u t 0 0 0 0
    unfolding sum
    line-none = record { under = λ s l. omega arith; steep = le_refl 0; few = omega arith; flat = le_refl 0 }

    module _ {i slope jitters level : ℕ} (h : i < transactions tab) (line : Line tab u t i slope jitters level) where
      abbrev M : ℕ
      M = tab.frame

      abbrev J : ℕ
      J = jitter tab i 0

      abbrev w : ℕ
      w = rival_load tab u i

      -- what is requested with it, in a major frame's time
      all-next : (s : ℕ) → M * sum (i + 1) (rival_request tab u s) ≡ M * sum i (rival_request tab u s) + M * rival_request tab u s i
      all-next s =
          ap (λ (x : ℕ). M * x) (sum-next i (rival_request tab u s))
          ∙ mul-add M (sum i (rival_request tab u s)) (rival_request tab u s i)

      -- a rival by its load
      pub line-sloped : J < 2 ^ 24 → Line tab u t (i + 1) (slope + w) (jitters + J * w) level
      line-sloped short =
          let loads = sum-next i (rival_load tab u) in
          record {
            under = λ s l.
                omega (arith, line.under s l, load-under u h s, mul-add s slope w, add-mul s J w, all-next s);
            steep = omega (arith, line.steep);
            few = omega (arith, line.few, mul-le-mul_right {m = J} {n = 2 ^ 24} w (omega arith));
            flat = omega (arith, line.flat, sum-next i (rival_request tab u t));
          }

      -- or by what it requests at t
      pub line-level : Line tab u t (i + 1) slope jitters (level + rival_request tab u t i)
      line-level =
          record {
            under = λ s l.
                omega (
                  arith,
                  line.under s l,
                  mul-le-mul_left M (rival-rises kept u {i = i} {s = t} {t = s} h l),
                  mul-add M level (rival_request tab u t i),
                  all-next s,
                );
            steep = omega (arith, line.steep, sum-next i (rival_load tab u));
            few = omega (arith, line.few, sum-next i (rival_load tab u));
            flat = omega (arith, line.flat, sum-next i (rival_request tab u t));
          }

module _ {tab : Table} (kept : Kept tab) (single : Single tab) {u : ℕ} (owner : u < transactions tab) where
  -- B + C
  abbrev own : ℕ
  own = blocking tab u 0 + time tab u 0 0

  -- a completion in a major frame's time
  completes-over : {t slope jitters level : ℕ} → Line tab u t (transactions tab) slope jitters level → (s : ℕ) → t ≤ s → Completes tab u s → tab.frame * (own + level) + jitters + s * slope ≤ s * tab.frame
  unfolding workload
  completes-over {level = level} line s l c =
      let M = tab.frame in
      let all = sum (transactions tab) (rival_request tab u s) in
      omega (arith, line.under s l, mul-add M own level, mul-add M own all, ap (λ (x : ℕ). M * x) c.1, mul_comm M s)

  -- Every completion is at least where the line and B + C meet t
  pub line-sound : {t slope jitters level : ℕ} → Sound tab u t → Line tab u t (transactions tab) slope jitters level → slope < tab.frame → {r : ℕ} → r ≡ ceil (tab.frame * (own + level) + jitters) (tab.frame - slope) → 1 ≤ r → Sound tab u r
  line-sound {t} {slope} {jitters} {level} sound line short {r} e some =
      record {
        some = some;
        below = λ s c.
            let over = completes-over line s (sound.below s c) c in
            let meets : tab.frame * (own + level) + jitters ≤ s * (tab.frame - slope) = omega (arith, mul-sub s tab.frame slope) in
            omega (arith, ceil-le {T = tab.frame - slope} (omega arith) s (tab.frame * (own + level) + jitters) meets);
      }

  -- ---- a full load

  -- every rival by its load
  steepest : (n : ℕ) → n ≤ transactions tab → (jitters : ℕ) × Line tab u 1 n (sum n (rival_load tab u)) jitters 0
  unfolding sum
  steepest zero l = (0, line-none kept)
  steepest (suc n) l =
      let (jitters, line) = steepest n (omega arith) in
      let next = line-sloped kept {i = n} (omega arith) line (jitter-lt kept (is_task kept single (omega arith))) in
      (jitters + jitter tab n 0 * rival_load tab u n, rw (← add-one n) next)

  -- Rivals that fill the major frame leave no completion
  pub full-never : tab.frame ≤ load tab u → Never tab u
  unfolding load
  full-never full s within c =
      let (jitters, line) = steepest (transactions tab) (le_refl _) in
      let over = completes-over line s c.0 c in
      let more : s * tab.frame ≤ s * sum (transactions tab) (rival_load tab u) = mul-le-mul_left s full in
      let some : 1 * 1 ≤ tab.frame * own = mul-le-mul {n₁ = 1} {m₁ = 1} kept.some_frame (omega (arith, runs-alone kept single owner)) in
      omega arith
