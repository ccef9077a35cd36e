-- A transaction that keeps one mode, in a window that starts at a quiet tick s: what its tasks take of the window is at
-- most what they charge when some candidate sets the critical instant, the one that can be ready first after s. As
-- another transaction than a's it is bounded by its greatest charge, as a's own by what u charges with a's jobs.
use mathlib.Core.Path.{◌≡◌, refl, ap, sym, subst, ◌∙◌}
use mathlib.Core.Logic.Dec
use mathlib.Core.Logic.{◌≢◌, ◌⊎◌, inl, inr, ⊎_map}
use Prim.Native.Nat.{ℕ, suc, ◌+◌, ◌*◌, ◌-◌, ◌%◌, ◌≤◌, ◌<◌, zero-le}
use native.Mathlib.Nat.{mod-add-mod, add-mod-mod, le_refl, add-mul}
use native.Mathlib.Decide.{dec_le, ℕ_discrete}
use native.Mathlib.Omega.{arith}
use lib.IntN.{pos, ◌-ℤ◌}
use Rattle.table.specs.Table.{Table, IsTask, transactions, tasks, modes, period, offset, jitter, priority, time}
use Rattle.table.proofs.Sum.{sum-le, sum_lt, sum-zero}
use Rattle.periods.specs.Phase.{ceil, phase, held}
use Rattle.periods.specs.Charge.{imposed, released}
use Rattle.periods.proofs.Congruence.{Steps}
use Rattle.periods.proofs.Phase.{phase-spec}
use Rattle.periods.proofs.Charge.{imp, rel, imposed-is, released-is, imp_mono, imp-add, rel-mono, rel-add, imp≤rel}
use Rattle.periods.proofs.Slide.{Slid, slide, slide-charge}
use Rattle.analysis.specs.Choice.{when, most}
use Rattle.analysis.specs.Rival.{Urgent, Runs, runs?, Rival, rival?}
use Rattle.analysis.specs.Charge.{Later, phase_of, held_of, task_charge, charge, greatest}
use Rattle.analysis.specs.Bound.{last_job, own}
use Rattle.analysis.specs.Needed.{job}
use Rattle.runs.specs.Run.{Run, event_tick, arrival, served}
use Rattle.runs.specs.Legal.{Rules}
use Rattle.analysis.proofs.Choice.{when-yes, when-le, most-ge}
use Rattle.analysis.proofs.Join.{own-job, own-by}
use Rattle.runs.proofs.Jobs.{Clear, arrives, took, index, took-unfinished, took-imposed, took-released}
use Rattle.runs.proofs.Task.{stream, served-done}
use Rattle.runs.proofs.Busy.{PeriodsPositive, Quiet, task_took, level_took}
use Rattle.runs.proofs.Apart.{apart-le, apart-lt}
use Rattle.runs.proofs.Search.{Lowest, search-lowest}

-- ---- one task, seen from s

-- (s − event) mod T: the ticks from an event of transaction i to s, were there events before the first too
unfoldable pub since : Table → Run → (s i : ℕ) → ℕ
since tab ρ s i = phase (period tab i) s (ρ.event i)

-- the phase of task j when s is the instant, and the jobs of it that may be held back to s
unfoldable pub phase_at : Table → Run → (s i j : ℕ) → ℕ
phase_at tab ρ s i j = phase (period tab i) (offset tab i j) (since tab ρ s i)

unfoldable pub held_at : Table → Run → (s i j : ℕ) → ℕ
held_at tab ρ s i j = held (period tab i) (jitter tab i j) (phase_at tab ρ s i j)

-- C in the mode that the run keeps
abbrev pub time_in : Table → Run → (i j : ℕ) → ℕ
time_in tab ρ i j = time tab i (ρ.mode i 0) j

-- job k is job N counted from the first that can be ready at s or later
abbrev pub Numbered : Table → Run → (s i j k N : ℕ) → Type 0
Numbered tab ρ s i j k N =
    arrival tab ρ i j k + held_at tab ρ s i j * period tab i ≡ s + phase_at tab ρ s i j + N * period tab i

-- a job of task j of transaction i that was ready before t and has not finished by t
pub record Left (ρ : Run) (i j t : ℕ) : Type 0 where
  pub k : ℕ
  pub ready : ρ.ready i j k < t
  pub unfinished : served ρ i j k t < ρ.need i j k

pub need-most : (tab : Table) (ρ : Run) → Rules tab ρ → (i j : ℕ) → IsTask tab i j → (k : ℕ) → ρ.need i j k ≤ time_in tab ρ i j
need-most tab ρ rules i j here k = rw (rules.permitted.steady i k here.owner) at (rules.permitted.need_most i j k here)

module _ (tab : Table) (ρ : Run) (rules : Rules tab ρ) (s i j : ℕ) (here : IsTask tab i j) (positive : 0 < period tab i) where
  -- event, offset and phase fit: s is `since` after an event, and the phase with that makes the offset, but for periods
  aligned : (ρ.event i + offset tab i j) % period tab i ≡ (s + phase_at tab ρ s i j) % period tab i
  unfolding phase_at since
  aligned =
      let T : ℕ = period tab i in
      let e : ℕ = ρ.event i in
      let O : ℕ = offset tab i j in
      let x : ℕ = phase T s e in
      let φ : ℕ = phase T O x in
      sym (add-mod-mod e O T)
      ∙ ap (λ (z : ℕ). (e + z) % T) (sym (phase-spec positive O x))
      ∙ add-mod-mod e (φ + x) T
      ∙ ap (λ (z : ℕ). z % T) (omega arith)
      ∙ sym (mod-add-mod (x + e) T φ)
      ∙ ap (λ (z : ℕ). (z + φ) % T) (phase-spec positive s e)
      ∙ mod-add-mod s T φ

  pub task-index : (k : ℕ) → s ≤ ρ.ready i j k → Steps (period tab i) (arrival tab ρ i j k + held_at tab ρ s i j * period tab i) (s + phase_at tab ρ s i j)
  unfolding stream arrives arrival event_tick held_at
  task-index k l = index (stream tab ρ rules i j here) positive s (phase_at tab ρ s i j) aligned k l

  module _ (clear : (k : ℕ) → ρ.ready i j k < s → served ρ i j k s ≡ ρ.need i j k) where
    stream-clear : Clear (stream tab ρ rules i j here) s
    unfolding stream
    stream-clear k l = sym (served-done tab ρ rules i j here k s) ∙ clear k l

    task-unfinished : (k N d : ℕ) → Numbered tab ρ s i j k N → served ρ i j k (s + d) < ρ.need i j k → task_took ρ s d i j < suc N * time_in tab ρ i j
    unfolding stream task_took took arrives arrival event_tick held_at
    task-unfinished k N d numbered left =
        took-unfinished (stream tab ρ rules i j here) positive s stream-clear (phase_at tab ρ s i j) aligned (time_in tab ρ i j)
        (need-most tab ρ rules i j here)
        k
        N
        d
        numbered
        (rw (served-done tab ρ rules i j here k (s + d)) at left)

    -- for any C that no job's need passes: 0, if the task does not run in the mode
    task-imposed : (C d : ℕ) → ((k : ℕ) → ρ.need i j k ≤ C) → task_took ρ s d i j ≤ held_at tab ρ s i j * C + imp (period tab i) C (d - phase_at tab ρ s i j)
    unfolding stream task_took took held_at
    task-imposed C d most =
        took-imposed (stream tab ρ rules i j here) positive s stream-clear (phase_at tab ρ s i j) aligned C most d

    task-released : (d : ℕ) → Left ρ i j (s + d) → task_took ρ s d i j < held_at tab ρ s i j * time_in tab ρ i j + rel (period tab i) (time_in tab ρ i j) (d - phase_at tab ρ s i j)
    unfolding stream task_took took held_at
    task-released d x =
        took-released (stream tab ρ rules i j here) positive s stream-clear (phase_at tab ρ s i j) aligned (time_in tab ρ i j)
        (need-most tab ρ rules i j here)
        x.k
        d
        x.ready
        (rw (served-done tab ρ rules i j here x.k (s + d)) at x.unfinished)

-- ---- the critical instant

-- a task of a's priority or above that runs in the mode that the run keeps
abbrev pub Active : Table → Run → (u a i j : ℕ) → Type 0
Active tab ρ u a i j = (Urgent tab u a i j) × (Runs tab i (ρ.mode i 0) j)

-- The candidate that sets the critical instant: no such task can be ready sooner after s, so that the instant slides
-- from s to the candidate's
pub record Critical (tab : Table) (ρ : Run) (u a s i : ℕ) : Type 0 where
  pub c : ℕ
  pub place : c < tasks tab i
  pub active : Active tab ρ u a i c
  pub slid : (j : ℕ) → j < tasks tab i → Active tab ρ u a i j → Slid (period tab i) (jitter tab i j) (phase_at tab ρ s i j) (phase_of tab i c j)

pub critical : (tab : Table) (ρ : Run) (u a s i : ℕ) → 0 < period tab i → Critical tab ρ u a s i ⊎ ((j : ℕ) → j < tasks tab i → ¬ (Active tab ρ u a i j))
unfolding phase_at phase_of
critical tab ρ u a s i positive =
    ⊎_map
    first
    (λ r. r)
    (search-lowest (tasks tab i) instant {D = Active tab ρ u a i} (λ c. Dec.and (dec_le _ _) (runs? tab i (ρ.mode i 0) c)))
  where
    instant : ℕ → ℕ
    instant c = phase (period tab i) (offset tab i c + jitter tab i c) (since tab ρ s i)

    first : Lowest (tasks tab i) instant (Active tab ρ u a i) → Critical tab ρ u a s i
    first x =
        record {
          c = x.i;
          place = x.below;
          active = x.has;
          slid = λ j l h. slide positive (offset tab i j) (jitter tab i j) (since tab ρ s i) (offset tab i x.i + jitter tab i x.i) (x.lowest j l h);
        }

-- What is needed of a charge of later jobs: over ℕ it is `cut`, never falls, rises by C with each period, and is at least
-- the imposed one
pub record Lawful (later : Later) : Type 0 where
  pub cut : (T C s : ℕ) → ℕ
  pub is : (T C t φ : ℕ) → later T C (pos t -ℤ pos φ) ≡ cut T C (t - φ)
  pub rises : (T C y z : ℕ) → 0 < T → y ≤ z → cut T C y ≤ cut T C z
  pub adds : (T C y : ℕ) → 0 < T → cut T C (y + T) ≡ cut T C y + C
  pub above : (T C y : ℕ) → 0 < T → imp T C y ≤ cut T C y

abbrev pub imposed-lawful : Lawful imposed
imposed-lawful =
    record {
      cut = imp;
      is = imposed-is;
      rises = λ T C y z h l. imp_mono h C l;
      adds = λ T C y h. imp-add h C y;
      above = λ T C y h. le_refl (imp T C y);
    }

abbrev pub released-lawful : Lawful released
released-lawful =
    record {
      cut = rel;
      is = released-is;
      rises = λ T C y z h l. rel-mono h C l;
      adds = λ T C y h. rel-add h C y;
      above = λ T C y h. imp≤rel h C y;
    }

-- the charge counted from s is at most that from the candidate's instant
charge-slid : {later : Later} (lawful : Lawful later) (tab : Table) (i m c j t φ : ℕ) → 0 < period tab i → Slid (period tab i) (jitter tab i j) φ (phase_of tab i c j) → held (period tab i) (jitter tab i j) φ * time tab i m j + lawful.cut (period tab i) (time tab i m j) (t - φ) ≤ task_charge later tab i m c t j
unfolding task_charge held_of
charge-slid lawful tab i m c j t φ positive x =
    let T : ℕ = period tab i in
    let C : ℕ = time tab i m j in
    rw (lawful.is T C t (phase_of tab i c j))
    (slide-charge T (jitter tab i j) C φ (phase_of tab i c j) t (lawful.cut T C) (λ y z. lawful.rises T C y z positive) (λ y. lawful.adds T C y positive) x)

-- ---- what a task, and its transaction, takes of a window

-- what is known of a window of a's that starts at s
pub record Start (tab : Table) (ρ : Run) (u a s : ℕ) : Type 0 where
  pub rules : Rules tab ρ
  pub positive : PeriodsPositive tab
  pub here : IsTask tab u a
  pub quiet : Quiet tab ρ (priority tab u a) s

module _ {tab : Table} {ρ : Run} {u a s : ℕ} (start : Start tab ρ u a s) where
  took-imposed-of : (i j C d : ℕ) → IsTask tab i j → Urgent tab u a i j → ((k : ℕ) → ρ.need i j k ≤ C) → task_took ρ s d i j ≤ held_at tab ρ s i j * C + imp (period tab i) C (d - phase_at tab ρ s i j)
  took-imposed-of i j C d at urgent most =
      task-imposed tab ρ start.rules s i j at (start.positive i at.owner) (λ k. start.quiet i j k at urgent) C d most

  -- a task that does not run in the mode takes nothing
  took-none : (i j d : ℕ) → IsTask tab i j → Urgent tab u a i j → ¬ (Runs tab i (ρ.mode i 0) j) → task_took ρ s d i j ≡ 0
  unfolding imp
  took-none i j d at urgent stays =
      omega (arith, took-imposed-of i j 0 d at urgent (λ k. omega (arith, need-most tab ρ start.rules i j at k)))

  -- a task of which work is left runs in the mode
  left-runs : (i j t : ℕ) → IsTask tab i j → Left ρ i j t → Runs tab i (ρ.mode i 0) j
  left-runs i j t at x = omega (arith, need-most tab ρ start.rules i j at x.k, x.unfinished)

  module _ {i : ℕ} (X : Critical tab ρ u a s i) where
    took-charge : {later : Later} → Lawful later → (j d : ℕ) → IsTask tab i j → Active tab ρ u a i j → task_took ρ s d i j ≤ task_charge later tab i (ρ.mode i 0) X.c d j
    unfolding held_at
    took-charge lawful j d at active =
        omega (
          arith,
          took-imposed-of i j (time_in tab ρ i j) d at active.0 (need-most tab ρ start.rules i j at),
          lawful.above (period tab i) (time_in tab ρ i j) (d - phase_at tab ρ s i j) (start.positive i at.owner),
          charge-slid lawful tab i (ρ.mode i 0) X.c j d (phase_at tab ρ s i j) (start.positive i at.owner) (X.slid j at.place active),
        )

    took-left : (j d : ℕ) → IsTask tab i j → Urgent tab u a i j → Left ρ i j (s + d) → task_took ρ s d i j < task_charge released tab i (ρ.mode i 0) X.c d j
    unfolding held_at
    took-left j d at urgent x =
        omega (
          arith,
          task-released tab ρ start.rules s i j at (start.positive i at.owner) (λ k. start.quiet i j k at urgent) d x,
          charge-slid released-lawful tab i (ρ.mode i 0) X.c j d (phase_at tab ρ s i j) (start.positive i at.owner) (X.slid j at.place (urgent, left-runs i j (s + d) at x)),
        )

    -- the same of a task other than a, as terms of what the transaction takes and of what it charges
    rival-charge : {later : Later} → Lawful later → (j d : ℕ) → IsTask tab i j → ¬ ((i ≡ u) × (j ≡ a)) → when (dec_le (priority tab u a) (priority tab i j)) (task_took ρ s d i j) ≤ when (rival? tab u a i (ρ.mode i 0) j) (task_charge later tab i (ρ.mode i 0) X.c d j)
    unfolding when
    rival-charge {later} lawful j d at other = go (dec_le (priority tab u a) (priority tab i j)) (runs? tab i (ρ.mode i 0) j)
      where
        go : (e : Dec (Urgent tab u a i j)) → Dec (Runs tab i (ρ.mode i 0) j) → when e (task_took ρ s d i j) ≤ when (rival? tab u a i (ρ.mode i 0) j) (task_charge later tab i (ρ.mode i 0) X.c d j)
        go (no h) r = zero-le
        go (yes urgent) (no h) = omega (arith, took-none i j d at urgent h)
        go (yes urgent) (yes runs) =
            rw (when-yes (rival? tab u a i (ρ.mode i 0) j) (task_charge later tab i (ρ.mode i 0) X.c d j) (record { other = other; urgent = urgent; runs = runs }))
            (took-charge lawful j d at (urgent, runs))

    rival-left : (j d : ℕ) → IsTask tab i j → ¬ ((i ≡ u) × (j ≡ a)) → Urgent tab u a i j → Left ρ i j (s + d) → when (dec_le (priority tab u a) (priority tab i j)) (task_took ρ s d i j) < when (rival? tab u a i (ρ.mode i 0) j) (task_charge released tab i (ρ.mode i 0) X.c d j)
    rival-left j d at other urgent x =
        rw (when-yes (rival? tab u a i (ρ.mode i 0) j) (task_charge released tab i (ρ.mode i 0) X.c d j) (record { other = other; urgent = urgent; runs = left-runs i j (s + d) at x }))
        (omega (arith, when-le (dec_le (priority tab u a) (priority tab i j)) (task_took ρ s d i j), took-left j d at urgent x))

  -- ---- as another transaction

  module _ (i : ℕ) (owner : i < transactions tab) (other : i ≢ u) where
    level-none : (d : ℕ) → ((j : ℕ) → j < tasks tab i → ¬ (Active tab ρ u a i j)) → level_took tab ρ (priority tab u a) s d i ≡ 0
    unfolding level_took when
    level-none d none = sum-zero (tasks tab i) (λ j place. go j place (dec_le (priority tab u a) (priority tab i j)))
      where
        go : (j : ℕ) → j < tasks tab i → (e : Dec (Urgent tab u a i j)) → when e (task_took ρ s d i j) ≡ 0
        go j place (yes urgent) =
            took-none i j d (record { owner = owner; place = place }) urgent (λ runs. none j place (urgent, runs))
        go j place (no h) = refl

    -- the critical candidate is one of those over which the charge is greatest
    greatest-ge : (later : Later) (d : ℕ) (X : Critical tab ρ u a s i) → charge later tab u a i (ρ.mode i 0) X.c d ≤ greatest later tab u a i d
    unfolding greatest
    greatest-ge later d X =
        let over : ℕ → ℕ → ℕ = λ m c. when (rival? tab u a i m c) (charge later tab u a i m c d) in
        let r : Rival tab u a i (ρ.mode i 0) X.c = record { other = λ e. other e.0; urgent = X.active.0; runs = X.active.1 } in
        omega (
          arith,
          when-yes (rival? tab u a i (ρ.mode i 0) X.c) (charge later tab u a i (ρ.mode i 0) X.c d) r,
          most-ge (tasks tab i) (over (ρ.mode i 0)) X.c X.place,
          most-ge (modes tab i) (λ m. most (tasks tab i) (over m)) (ρ.mode i 0) (start.rules.permitted.mode i 0 owner),
        )

    pub other-charge : {later : Later} → Lawful later → (d : ℕ) → level_took tab ρ (priority tab u a) s d i ≤ greatest later tab u a i d
    unfolding level_took charge
    other-charge {later} lawful d = go (critical tab ρ u a s i (start.positive i owner))
      where
        go : Critical tab ρ u a s i ⊎ ((j : ℕ) → j < tasks tab i → ¬ (Active tab ρ u a i j)) → level_took tab ρ (priority tab u a) s d i ≤ greatest later tab u a i d
        go (inl X) =
            omega (
              arith,
              sum-le (tasks tab i) (λ j place. rival-charge X lawful j d (record { owner = owner; place = place }) (λ e. other e.0)),
              greatest-ge later d X,
            )
        go (inr none) = omega (arith, level-none d none)

    pub other-left : (j d : ℕ) → IsTask tab i j → Urgent tab u a i j → Left ρ i j (s + d) → level_took tab ρ (priority tab u a) s d i < greatest released tab u a i d
    unfolding level_took charge
    other-left j d at urgent x = go (critical tab ρ u a s i (start.positive i owner))
      where
        go : Critical tab ρ u a s i ⊎ ((j : ℕ) → j < tasks tab i → ¬ (Active tab ρ u a i j)) → level_took tab ρ (priority tab u a) s d i < greatest released tab u a i d
        go (inl X) =
            omega (
              arith,
              sum_lt (tasks tab i) (λ l place. rival-charge X released-lawful l d (record { owner = owner; place = place }) (λ e. other e.0)) j at.place (rival-left X j d at (λ e. other e.0) urgent x),
              greatest-ge released d X,
            )
        go (inr none) = absurd (none j at.place (urgent, left-runs i j (s + d) at x))

  -- ---- as a's own transaction

  module _ (X : Critical tab ρ u a s u) where
    own-term : {later : Later} → Lawful later → (d j : ℕ) → j < tasks tab u → j ≢ a → when (dec_le (priority tab u a) (priority tab u j)) (task_took ρ s d u j) ≤ when (rival? tab u a u (ρ.mode u 0) j) (task_charge later tab u (ρ.mode u 0) X.c d j)
    own-term lawful d j place h =
        rival-charge X lawful j d (record { owner = start.here.owner; place = place }) (λ e. h e.1)

    own-charge : {later : Later} → Lawful later → (d : ℕ) → level_took tab ρ (priority tab u a) s d u ≤ task_took ρ s d u a + charge later tab u a u (ρ.mode u 0) X.c d
    unfolding level_took charge
    own-charge lawful d =
        omega (
          arith,
          apart-le (tasks tab u) a start.here.place (own-term lawful d),
          when-le (dec_le (priority tab u a) (priority tab u a)) (task_took ρ s d u a),
        )

    -- a's jobs up to N, the last of them unfinished, and what the rivals impose
    pub own-unfinished : (k N d : ℕ) → Numbered tab ρ s u a k N → served ρ u a k (s + d) < ρ.need u a k → level_took tab ρ (priority tab u a) s d u < own imposed tab u a (ρ.mode u 0) X.c (job tab u a X.c N) d
    own-unfinished k N d numbered left =
        omega (
          arith,
          own-job imposed tab u a (ρ.mode u 0) X.c N d,
          own-charge imposed-lawful d,
          task-unfinished tab ρ start.rules s u a start.here (start.positive u start.here.owner) (λ l. start.quiet u a l start.here (le_refl (priority tab u a))) k N d numbered left,
        )

    -- what u charges by d: a's jobs by then as a charge, and its rivals'
    own-by-now : (d : ℕ) → task_charge released tab u (ρ.mode u 0) X.c d a + charge released tab u a u (ρ.mode u 0) X.c d ≡ own released tab u a (ρ.mode u 0) X.c (last_job tab u a X.c d) d
    unfolding task_charge rel
    own-by-now d =
        let T : ℕ = period tab u in
        let C : ℕ = time_in tab ρ u a in
        let F : ℕ = phase_of tab u X.c a in
        omega (
          arith,
          own-by released tab u a (ρ.mode u 0) X.c d (start.positive u start.here.owner),
          released-is T C d F,
          add-mul (held_of tab u X.c a) (ceil (d - F) T) C,
        )

    module _ (runs : Runs tab u (ρ.mode u 0) a) where
      own-task : (d : ℕ) → task_took ρ s d u a ≤ task_charge released tab u (ρ.mode u 0) X.c d a
      own-task d = took-charge X released-lawful a d start.here (le_refl (priority tab u a), runs)

      pub own-released : (d : ℕ) → level_took tab ρ (priority tab u a) s d u ≤ own released tab u a (ρ.mode u 0) X.c (last_job tab u a X.c d) d
      own-released d = omega (arith, own-charge released-lawful d, own-task d, own-by-now d)

      pub own-left : (j d : ℕ) → IsTask tab u j → Urgent tab u a u j → Left ρ u j (s + d) → level_took tab ρ (priority tab u a) s d u < own released tab u a (ρ.mode u 0) X.c (last_job tab u a X.c d) d
      unfolding level_took charge
      own-left j d at urgent x = rw (← own-by-now d) (go (ℕ_discrete j a))
        where
          go : Dec (j ≡ a) → level_took tab ρ (priority tab u a) s d u < task_charge released tab u (ρ.mode u 0) X.c d a + charge released tab u a u (ρ.mode u 0) X.c d
          go (yes e) =
              omega (
                arith,
                own-charge released-lawful d,
                took-left X a d start.here (le_refl (priority tab u a)) (subst (λ l. Left ρ u l (s + d)) e x),
              )
          go (no h) =
              omega (
                arith,
                apart-lt (tasks tab u) a start.here.place (own-term released-lawful d) j at.place (rival-left X j d at (λ e. h e.1) urgent x),
                when-le (dec_le (priority tab u a) (priority tab u a)) (task_took ρ s d u a),
                own-task d,
              )
