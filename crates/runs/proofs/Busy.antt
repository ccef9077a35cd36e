-- The busy window of a job, whatever the tasks charge: it starts where no work of the job's priority or above is left
-- over, and from there on such work has every tick but B of them. `reach` and `complete` turn a bound on what that work
-- takes of the window into a place that the job's readiness, or its finish, cannot pass.
use mathlib.Core.Path.{◌≡◌, refl, ap, subst, ◌∙◌}
use mathlib.Core.Logic.{◌⊎◌, inl, inr, ⊎_map}
use Prim.Native.Nat.{ℕ, zero, suc, ◌+◌, ◌≤◌, ◌<◌, zero-le}
use native.Mathlib.Nat.{le_refl, le-mul_of_pos_right}
use native.Mathlib.Decide.{dec_le, dec_lt}
use native.Mathlib.Omega.{arith}
use Rattle.table.specs.Sum.{sum}
use Rattle.table.specs.Table.{Table, IsTask, transactions, tasks, period, blocking, priority}
use Rattle.table.proofs.Sum.{sum-ext, sum-add, sum-term}
use Rattle.analysis.specs.Choice.{when}
use Rattle.runs.specs.Run.{Slot, idle, job, Run, Finished, event_tick, arrival, served}
use Rattle.runs.specs.Legal.{Rules, Pending, Backlog, lower, lower_ticks, Stretch, Unbroken, HoldsWidely}
use Rattle.analysis.proofs.Choice.{when-yes}
use Rattle.runs.proofs.Jobs.{any}
use Rattle.runs.proofs.Task.{look, look_self, served-le, served-mono}
use Rattle.runs.proofs.Search.{search-below}

-- the ticks among the d from s on that serve task j of transaction i
unfoldable pub task_took : Run → (s d i j : ℕ) → ℕ
task_took ρ s d i j = sum d (λ v. any (look i j (ρ.at (s + v))))

-- those that serve a task of transaction i with priority p or above
unfoldable pub level_took : Table → Run → (p s d i : ℕ) → ℕ
level_took tab ρ p s d i = sum (tasks tab i) (λ j. when (dec_le p (priority tab i j)) (task_took ρ s d i j))

-- ---- every tick of a stretch is one of lower work or of such work

-- 1 where the tick serves such a task
level_at : Table → ℕ → Slot → ℕ → ℕ
level_at tab p l i = sum (tasks tab i) (λ j. when (dec_le p (priority tab i j)) (any (look i j l)))

when-add : {A : Type 0} (d : Dec A) (x y : ℕ) → when d (x + y) ≡ when d x + when d y
unfolding when
when-add (yes a) x y = refl
when-add (no f) x y = refl

one-tick : (tab : Table) (p : ℕ) (l : Slot) → ((i j k : ℕ) → l ≡ job i j k → IsTask tab i j) → 1 ≤ lower tab p l + sum (transactions tab) (level_at tab p l)
unfolding lower when level_at any
one-tick tab p idle h = omega arith
one-tick tab p (job i j k) h = go (dec_lt (priority tab i j) p)
  where
    l : Slot
    l = job i j k

    go : (d : Dec (priority tab i j < p)) → 1 ≤ when d 1 + sum (transactions tab) (level_at tab p l)
    go (yes b) = omega arith
    go (no b) =
        let here : IsTask tab i j = h i j k refl in
        let self : any (look i j l) ≡ 1 = ap any (look_self i j k) in
        let level : when (dec_le p (priority tab i j)) (any (look i j l)) ≡ any (look i j l) = when-yes (dec_le p (priority tab i j)) _ (omega arith) in
        let mine : when (dec_le p (priority tab i j)) (any (look i j l)) ≤ level_at tab p l i = sum-term (tasks tab i) (λ x. when (dec_le p (priority tab i x)) (any (look i x l))) j here.place in
        omega (arith, sum-term (transactions tab) (level_at tab p l) i here.owner)

level_took-suc : (tab : Table) (ρ : Run) (p s d i : ℕ) → level_took tab ρ p s (suc d) i ≡ level_took tab ρ p s d i + level_at tab p (ρ.at (s + d)) i
unfolding level_took task_took level_at sum
level_took-suc tab ρ p s d i =
    sum-ext (tasks tab i) (λ j l. when-add (dec_le p (priority tab i j)) (task_took ρ s d i j) (any (look i j (ρ.at (s + d)))))
    ∙ sum-add (tasks tab i) _ _

count-ticks : (tab : Table) (ρ : Run) → Rules tab ρ → (p s d : ℕ) → d ≤ lower_ticks tab ρ p s d + sum (transactions tab) (level_took tab ρ p s d)
unfolding lower_ticks sum
count-ticks tab ρ rules p s zero = zero-le
count-ticks tab ρ rules p s (suc d) =
    let tick = one-tick tab p (ρ.at (s + d)) (λ i j k e. (rules.serving (s + d) i j k e).is_task) in
    let n : ℕ = transactions tab in
    let more : sum n (level_took tab ρ p s (suc d)) ≡ sum n (level_took tab ρ p s d) + sum n (level_at tab p (ρ.at (s + d))) = sum-ext n (λ i l. level_took-suc tab ρ p s d i) ∙ sum-add n _ _ in
    omega (arith, count-ticks tab ρ rules p s d)

-- ---- quiet ticks

-- what is needed of a table: it makes a job of event k arrive at k or later
abbrev pub PeriodsPositive : Table → Type 0
PeriodsPositive tab = (i : ℕ) → i < transactions tab → 0 < period tab i

-- every job of priority p or above that was ready before s has finished by s
abbrev pub Quiet : Table → Run → (p s : ℕ) → Type 0
Quiet tab ρ p s =
    (i j k : ℕ) → IsTask tab i j → p ≤ priority tab i j → ρ.ready i j k < s → Finished ρ i j k s

-- The last quiet tick up to r: work is left over when each later tick up to r begins
pub record Window (tab : Table) (ρ : Run) (p r : ℕ) : Type 0 where
  pub s : ℕ
  pub early : s ≤ r
  pub quiet : Quiet tab ρ p s
  pub backlog : (t : ℕ) → s < t → t ≤ r → Backlog tab ρ p t

module _ (tab : Table) (ρ : Run) (rules : Rules tab ρ) (positive : PeriodsPositive tab) (p : ℕ) where
  quiet-job : (s i j k : ℕ) → IsTask tab i j → Backlog tab ρ p s ⊎ (p ≤ priority tab i j → ρ.ready i j k < s → Finished ρ i j k s)
  quiet-job s i j k here =
      go (dec_le p (priority tab i j)) (dec_lt (ρ.ready i j k) s) (dec_lt (served ρ i j k s) (ρ.need i j k))
    where
      go : Dec (p ≤ priority tab i j) → Dec (ρ.ready i j k < s) → Dec (served ρ i j k s < ρ.need i j k) → Backlog tab ρ p s ⊎ (p ≤ priority tab i j → ρ.ready i j k < s → Finished ρ i j k s)
      go (no f) d e = inr (λ x y. absurd (f x))
      go (yes x) (no f) e = inr (λ z y. absurd (f y))
      go (yes x) (yes y) (no f) = inr (λ z w. omega (arith, served-le tab ρ rules i j here k s))
      go (yes x) (yes y) (yes z) =
          inl (record { i = i; j = j; k = k; is_task = here; urgent = x; ready = y; unfinished = z })

  -- only the jobs of the first s events can be ready before s
  few-jobs : (s i j k : ℕ) → IsTask tab i j → ρ.ready i j k < s → k < s
  unfolding arrival event_tick
  few-jobs s i j k here l =
      omega (arith, rules.permitted.arrived i j k here, le-mul_of_pos_right k (positive i here.owner))

  -- search all tasks and those jobs for work that is left over
  quiet_or : (s : ℕ) → Backlog tab ρ p s ⊎ Quiet tab ρ p s
  quiet_or s =
      ⊎_map (λ b. b) (λ q i j k here u l. q i here.owner j here.place k (few-jobs s i j k here l) u l)
      (search-below (transactions tab) (λ i owner.
      search-below (tasks tab i) (λ j place.
      search-below s (λ k l. quiet-job s i j k (record { owner = owner; place = place })))))

  pub window : (r : ℕ) → Window tab ρ p r
  window zero =
      record {
        s = 0;
        early = zero-le;
        quiet = λ i j k here u l. absurd (omega arith);
        backlog = λ t l h. absurd (omega arith);
      }
  window (suc r) = go (window r) (quiet_or (suc r))
    where
      go : Window tab ρ p r → Backlog tab ρ p (suc r) ⊎ Quiet tab ρ p (suc r) → Window tab ρ p (suc r)
      go x (inr q) =
          record { s = suc r; early = omega arith; quiet = q; backlog = λ t l h. absurd (omega arith) }
      go x (inl b) =
          record {
            s = x.s;
            early = omega (arith, x.early);
            quiet = x.quiet;
            backlog =
                λ t l h.
                elim (dec_lt r t) [ yes m ↦ subst (Backlog tab ρ p) (omega arith) b | no m ↦ x.backlog t l (omega arith) ];
          }

-- ---- the window of a job

module _ (tab : Table) (ρ : Run) (rules : Rules tab ρ) (u a k : ℕ) (here : IsTask tab u a) (holds : HoldsWidely tab ρ u a) (X : Window tab ρ (priority tab u a) (ρ.ready u a k)) where
  -- what is left over when the next tick begins is pending in this one
  pending-before : (t : ℕ) → X.s ≤ t → t < ρ.ready u a k → Pending tab ρ (priority tab u a) t
  pending-before t l h =
      let b : Backlog tab ρ (priority tab u a) (suc t) = X.backlog (suc t) (omega arith) h in
      record {
        i = b.i;
        j = b.j;
        k = b.k;
        is_task = b.is_task;
        urgent = b.urgent;
        ready = omega (arith, b.ready);
        unfinished = omega (arith, b.unfinished, served-mono ρ b.i b.j b.k t (suc t) (omega arith));
      }

  -- Before the job is ready the window's own work is pending, after that the job itself, so the window is an unbroken
  -- stretch
  window-count : (d : ℕ) → ((v : ℕ) → v < d → ρ.ready u a k ≤ X.s + v → served ρ u a k (X.s + v) < ρ.need u a k) → d ≤ blocking tab u a + sum (transactions tab) (level_took tab ρ (priority tab u a) X.s d)
  window-count d left =
      omega (arith, holds X.s d unbroken stretch, count-ticks tab ρ rules (priority tab u a) X.s d)
    where
      stretch : Stretch tab ρ (priority tab u a) X.s d
      stretch v l =
          elim (dec_lt (X.s + v) (ρ.ready u a k)) [
            | yes h ↦ pending-before (X.s + v) (omega arith) h
            | no h ↦
                record {
                  i = u;
                  j = a;
                  k = k;
                  is_task = here;
                  urgent = le_refl (priority tab u a);
                  ready = omega arith;
                  unfinished = left v l (omega arith);
                }
          ]

      unbroken : Unbroken tab ρ (priority tab u a) X.s d
      unbroken v o l =
          elim (dec_lt (ρ.ready u a k) (X.s + v)) [
            | no h ↦ X.backlog (X.s + v) (omega arith) (omega arith)
            | yes h ↦
                record {
                  i = u;
                  j = a;
                  k = k;
                  is_task = here;
                  urgent = le_refl (priority tab u a);
                  ready = h;
                  unfinished = left v l (omega arith);
                }
          ]

  -- if work were left over at s + L, the window up to there would be longer than L
  pub reach : (L S : ℕ) → 0 < L → (Backlog tab ρ (priority tab u a) (X.s + L) → sum (transactions tab) (level_took tab ρ (priority tab u a) X.s L) < S) → blocking tab u a + S ≤ L → ρ.ready u a k < X.s + L
  reach L S some less fits =
      elim (dec_lt (ρ.ready u a k) (X.s + L)) [
        | yes h ↦ h
        | no h ↦
            absurd (omega (arith, less (X.backlog (X.s + L) (omega arith) (omega arith)), window-count L (λ v l r. absurd (omega arith))))
      ]

  -- if the job were unfinished at s + w, the window up to there would be longer than w
  pub complete : (w S : ℕ) → (served ρ u a k (X.s + w) < ρ.need u a k → sum (transactions tab) (level_took tab ρ (priority tab u a) X.s w) < S) → blocking tab u a + S ≤ w → Finished ρ u a k (X.s + w)
  complete w S less fits =
      elim (dec_lt (served ρ u a k (X.s + w)) (ρ.need u a k)) [
        | no h ↦ omega (arith, served-le tab ρ rules u a here k (X.s + w))
        | yes h ↦
            absurd (omega (arith, less h, window-count w (λ v l r. omega (arith, served-mono ρ u a k (X.s + v) (X.s + w) (omega arith)))))
      ]
