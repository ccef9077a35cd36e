-- Demand 3: a bound holds in every legal run. In the window of a job, the charges of the candidate that sets the
-- critical instant bound what the processor does before the job is ready, and before it finishes.
use mathlib.Core.Path.{◌≡◌}
use mathlib.Core.Logic.{◌≢◌, inl, inr, ⊎_elim}
use Prim.Native.Nat.{ℕ, ◌+◌, ◌*◌, ◌≤◌, ◌<◌}
use native.Mathlib.Nat.{le_refl}
use native.Mathlib.Decide.{ℕ_discrete}
use native.Mathlib.Omega.{arith}
use Rattle.table.specs.Sum.{sum}
use Rattle.table.specs.Table.{Table, IsTask, transactions, period, jitter, priority}
use Rattle.periods.specs.Charge.{imposed, released}
use Rattle.periods.proofs.Congruence.{Steps}
use Rattle.periods.proofs.Slide.{slide-own}
use Rattle.analysis.specs.Choice.{unless}
use Rattle.analysis.specs.Rival.{Runs, runs?, Candidate}
use Rattle.analysis.specs.Charge.{Later, phase_of, held_of, greatest, others}
use Rattle.analysis.specs.Bound.{Setting, last_job, jobs_to, own, demand, busy}
use Rattle.analysis.specs.Needed.{job}
use Rattle.runs.specs.Run.{Run, Finished, event_tick, arrival, served}
use Rattle.runs.specs.Legal.{Rules, Backlog, Holds, HoldsWidely}
use Rattle.runs.specs.Promise.{Safe}
use Rattle.analysis.proofs.Choice.{unless-no}
use Rattle.analysis.proofs.Bounds.{JobBound, CandidateBound, Bounds}
use Rattle.analysis.proofs.Join.{jobs-by}
use Rattle.runs.proofs.Apart.{apart-le, apart-lt}
use Rattle.runs.proofs.Jobs.{counted}
use Rattle.runs.proofs.Task.{served-le, served-mono}
use Rattle.runs.proofs.Busy.{PeriodsPositive, Window, window, level_took, reach, complete}
use Rattle.runs.proofs.Steady.{
  phase_at,
  held_at,
  Numbered,
  Left,
  need-most,
  task-index,
  Critical,
  critical,
  Lawful,
  imposed-lawful,
  released-lawful,
  Start,
  other-charge,
  other-left,
  own-unfinished,
  own-released,
  own-left,
}

-- ---- all transactions together

-- what the tasks of a's priority or above take of the d ticks from s on
abbrev all_took : Table → Run → (u a s d : ℕ) → ℕ
all_took tab ρ u a s d = sum (transactions tab) (level_took tab ρ (priority tab u a) s d)

module _ {tab : Table} {ρ : Run} {u a s : ℕ} (start : Start tab ρ u a s) where
  other-term : {later : Later} → Lawful later → (d i : ℕ) → i < transactions tab → i ≢ u → level_took tab ρ (priority tab u a) s d i ≤ unless (ℕ_discrete i u) (greatest later tab u a i d)
  other-term {later} lawful d i owner other =
      rw (unless-no (ℕ_discrete i u) (greatest later tab u a i d) other) (other-charge start i owner other lawful d)

  took-all : {later : Later} → Lawful later → (d : ℕ) → all_took tab ρ u a s d ≤ level_took tab ρ (priority tab u a) s d u + others later tab u a d
  unfolding others
  took-all lawful d = apart-le (transactions tab) u start.here.owner (other-term lawful d)

  module _ (X : Critical tab ρ u a s u) where
    -- while the job is unfinished they take less than its demand has apart from B
    took-before-finish : (k N d : ℕ) → Numbered tab ρ s u a k N → served ρ u a k (s + d) < ρ.need u a k → all_took tab ρ u a s d < own imposed tab u a (ρ.mode u 0) X.c (job tab u a X.c N) d + others imposed tab u a d
    took-before-finish k N d numbered left =
        omega (arith, took-all imposed-lawful d, own-unfinished start X k N d numbered left)

    -- while work is left over they take less than is released
    took-before-quiet : Runs tab u (ρ.mode u 0) a → (d : ℕ) → Backlog tab ρ (priority tab u a) (s + d) → all_took tab ρ u a s d < own released tab u a (ρ.mode u 0) X.c (last_job tab u a X.c d) d + others released tab u a d
    unfolding others
    took-before-quiet runs d b = go (ℕ_discrete b.i u)
      where
        left : Left ρ b.i b.j (s + d)
        left = record { k = b.k; ready = b.ready; unfinished = b.unfinished }

        go : Dec (b.i ≡ u) → all_took tab ρ u a s d < own released tab u a (ρ.mode u 0) X.c (last_job tab u a X.c d) d + others released tab u a d
        go (yes e) =
            omega (
              arith,
              took-all released-lawful d,
              own-left start X runs b.j d (rw e at b.is_task) (rw e at b.urgent) (rw e at left),
            )
        go (no other) =
            let less : level_took tab ρ (priority tab u a) s d b.i < unless (ℕ_discrete b.i u) (greatest released tab u a b.i d) = rw (unless-no (ℕ_discrete b.i u) (greatest released tab u a b.i d) other) (other-left start b.i b.is_task.owner other b.j d b.is_task b.urgent left) in
            omega (
              arith,
              apart-lt (transactions tab) u start.here.owner (other-term released-lawful d) b.i b.is_task.owner less,
              own-released start X runs d,
            )

-- ---- a job's window, with its critical candidate

module _ (tab : Table) (positive : PeriodsPositive tab) (ρ : Run) (rules : Rules tab ρ) (u a k : ℕ) (here : IsTask tab u a) (holds : HoldsWidely tab ρ u a) (W : Window tab ρ (priority tab u a) (ρ.ready u a k)) where
  start : Start tab ρ u a W.s
  start = record { rules = rules; positive = positive; here = here; quiet = W.quiet }

  module _ (X : Critical tab ρ u a W.s u) (runs : Runs tab u (ρ.mode u 0) a) where
    -- the candidate is one over which the bound is taken
    setting : Setting tab u a (ρ.mode u 0) X.c
    setting =
        record {
          mode = rules.permitted.mode u 0 here.owner;
          runs = runs;
          place = X.place;
          candidate = go (ℕ_discrete X.c a);
        }
      where
        go : Dec (X.c ≡ a) → Candidate tab u a (ρ.mode u 0) X.c
        go (yes e) = inl e
        go (no h) = inr (record { other = λ e. h e.1; urgent = X.active.0; runs = X.active.1 })

    -- the job is ready within a busy length
    ready-within : (L : ℕ) → 1 ≤ L → busy tab u a (ρ.mode u 0) X.c L ≤ L → ρ.ready u a k < W.s + L
    unfolding busy demand
    ready-within L some fits =
        reach tab ρ rules u a k here holds W L _ some (took-before-quiet start X runs L) (omega arith)

    -- and finished where its demand is met
    finished-by : (N w : ℕ) → Numbered tab ρ W.s u a k N → demand imposed tab u a (ρ.mode u 0) X.c (job tab u a X.c N) w ≤ w → Finished ρ u a k (W.s + w)
    unfolding demand
    finished-by N w numbered fits =
        complete tab ρ rules u a k here holds W w _ (took-before-finish start X k N w numbered) (omega arith)

    -- Counted from the candidate's instant the job is one of those by L, and arrives no later than counted from s
    finished : (R : ℕ) → CandidateBound tab u a (ρ.mode u 0) X.c R → Finished ρ u a k (event_tick tab ρ u k + R)
    unfolding arrival held_at held_of
    finished R b =
        omega (
          arith,
          finished-by x.N J.w x.is J.completes,
          served-le tab ρ rules u a here k (event_tick tab ρ u k + R),
          served-mono ρ u a k (W.s + J.w) (event_tick tab ρ u k + R) (omega (arith, x.is, slid, J.response)),
        )
      where
        x : Steps (period tab u) (arrival tab ρ u a k + held_at tab ρ W.s u a * period tab u) (W.s + phase_at tab ρ W.s u a)
        x = task-index tab ρ rules W.s u a here (positive u here.owner) k W.early

        slid : phase_of tab u X.c a + held_at tab ρ W.s u a * period tab u ≤ phase_at tab ρ W.s u a + held_of tab u X.c a * period tab u
        slid =
            slide-own (period tab u) (jitter tab u a) (phase_at tab ρ W.s u a) (phase_of tab u X.c a)
            (X.slid a here.place (le_refl (priority tab u a), runs))

        below : x.N < jobs_to tab u a X.c (last_job tab u a X.c b.L)
        below =
            rw (jobs-by tab u a X.c b.L (positive u here.owner))
            (counted (positive u here.owner) (held_of tab u X.c a) x.N (phase_of tab u X.c a) b.L
            (omega (arith, x.is, slid, ready-within b.L b.some b.length, rules.permitted.arrived u a k here)))

        J : JobBound tab u a (ρ.mode u 0) X.c R x.N
        J = b.job x.N below

-- ---- demand 3

-- in a run that keeps the rules and, with a as a, the wider holding rule
pub sound : (tab : Table) → PeriodsPositive tab → (ρ : Run) → Rules tab ρ → (u a k R : ℕ) → IsTask tab u a → HoldsWidely tab ρ u a → Bounds tab u a R → Finished ρ u a k (event_tick tab ρ u k + R)
sound tab positive ρ rules u a k R here holds bounds = go (runs? tab u (ρ.mode u 0) a)
  where
    W : Window tab ρ (priority tab u a) (ρ.ready u a k)
    W = window tab ρ rules positive (priority tab u a) (ρ.ready u a k)

    go : Dec (Runs tab u (ρ.mode u 0) a) → Finished ρ u a k (event_tick tab ρ u k + R)
    go (no h) =
        omega (arith, served-le tab ρ rules u a here k (event_tick tab ρ u k + R), need-most tab ρ rules u a here k)
    go (yes runs) =
        ⊎_elim
        (λ X.
        finished tab positive ρ rules u a k here holds W X runs R
        (bounds.each (ρ.mode u 0) X.c (setting tab positive ρ rules u a k here holds W X runs)))
        (λ none. absurd (none a here.place (le_refl (priority tab u a), runs)))
        (critical tab ρ u a W.s u (positive u here.owner))

-- a run that keeps the holding rule as document 01 has it keeps the wider one
pub holds-widely : (tab : Table) (ρ : Run) (u a : ℕ) → Holds tab ρ u a → HoldsWidely tab ρ u a
holds-widely tab ρ u a holds = λ s d unbroken. holds s d

-- in every legal run
pub safe : (tab : Table) → PeriodsPositive tab → (u a R : ℕ) → IsTask tab u a → Bounds tab u a R → Safe tab u a R
safe tab positive u a R here bounds =
    λ ρ legal k. sound tab positive ρ legal.rules u a k R here (holds-widely tab ρ u a (legal.holds u a here)) bounds
