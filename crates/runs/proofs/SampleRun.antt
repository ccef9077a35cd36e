-- Two legal runs in which a task responds in exactly its bound, computed for their first ticks: document 01's sample S,
-- task 2 in 5; and a lone task with the greatest delay and the most lower work that its J and B permit, in 9.
use mathlib.Core.Path.{◌≡◌, refl}
use mathlib.Core.List.{[], ◌∷◌}
use Prim.Native.Nat.{ℕ, zero, suc, ◌+◌, ◌≤◌, ◌<◌, ◌^◌, zero-le}
use native.Mathlib.Decide.{dec_lt}
use native.Mathlib.Omega.{arith}
use lib.Dec.{lit<, lit≤}
use lib.ListN.{get_or}
use Rattle.table.specs.Table.{Table, IsTask, no_task, transaction, jitter, blocking}
use Rattle.table.specs.Kept.{Kept, KeptTransaction, KeptTask}
use Rattle.table.specs.Sample.{S}
use Rattle.table.proofs.Kept.{S-kept}
use Rattle.table.proofs.Sum.{sum_grow}
use Rattle.periods.specs.Charge.{imposed}
use Rattle.analysis.specs.Answer.{bound}
use Rattle.analysis.specs.Walk.{answer}
use Rattle.analysis.specs.Computing.{computing}
use Rattle.runs.specs.Run.{idle, job, Run, event_tick, serves, served, Finished, RespondsIn}
use Rattle.runs.specs.Legal.{Legal}
use Rattle.runs.specs.Beginning.{Extension}
use Rattle.runs.specs.Promise.{Safe}
use Rattle.runs.specs.Computing.{ticking}
use Rattle.runs.specs.Cases.{one, is_one, lazy, lazy-pending}
use Rattle.analysis.proofs.Sample.{is_task-2, bound-2}
use Rattle.runs.proofs.Demand.{bound-safe}
use Rattle.runs.proofs.Dispatch.{choose, rank, more, best, pending?, if_pending, earliest, dispatch}
use Rattle.runs.proofs.Extend.{given, newest, next, add, past, dispatched, dispatched-legal}
use Rattle.runs.proofs.Exists.{nothing_yet, begun}
use Rattle.runs.proofs.ExistsDelayed.{delayed, delayed-permitted, idle-beginning}

-- One name that opens the dispatcher too, so that the first ticks of a run that it made compute
unfoldable pub dispatching : Unit {0}
unfolding ticking delayed choose rank more best pending? if_pending earliest dispatch given newest next add past dispatched
dispatching = tt

-- What is served only grows, so that a job which had not finished one tick earlier had not finished before either
responds :
    (tab : Table) (ρ : Run) (i j k R : ℕ) →
    Finished ρ i j k (event_tick tab ρ i k + suc R) →
    served ρ i j k (event_tick tab ρ i k + R) < ρ.need i j k →
    RespondsIn tab ρ i j k (suc R)
unfolding served
responds tab ρ i j k R h u = record { has = h; least = λ t e. go t e (dec_lt R t) }
  where
    go : (t : ℕ) → Finished ρ i j k (event_tick tab ρ i k + t) → Dec (R < t) → suc R ≤ t
    go t e (yes l) = l
    go t e (no l) =
        let from : ℕ = event_tick tab ρ i k in
        absurd (omega (arith, sum_grow (from + t) (from + R) (λ v. serves i j k (ρ.at v)) (omega arith)))

-- so that nothing less can be promised
unsafe :
    (tab : Table) (ρ : Run) (u a R : ℕ) → Legal tab ρ → RespondsIn tab ρ u a 0 (suc R) → ¬ (Safe tab u a R)
unsafe tab ρ u a R legal h safe = omega (arith, h.least R (safe ρ legal 0))

-- transaction 1's event comes with the arrival of task 1, which stands 4 after the event of transaction 0
unfoldable pub first_events : ℕ → ℕ
first_events zero = 0
first_events (suc i) = 4

unfoldable pub sample_run : Run
sample_run = dispatched S (delayed S first_events 0) 0

pub sample-legal : Legal S sample_run
unfolding sample_run
sample-legal =
    dispatched-legal
    S
    S-kept
    (delayed S first_events 0)
    0
    (nothing_yet S _ (delayed-permitted S S-kept first_events 0 (λ i j h. zero-le)))

-- its ticks before 9, the newest first
pub sample-ticks :
    past S (delayed S first_events 0) 0 9
    ≡ job 1 0 0 ∷ job 1 0 0 ∷ job 0 1 0 ∷ job 0 1 0 ∷ job 0 1 0 ∷ idle ∷ idle ∷ job 0 0 0 ∷ job 0 0 0 ∷ []
unfolding dispatching first_events
sample-ticks = refl

pub sample-responds : RespondsIn S sample_run 1 0 0 5
unfolding dispatching sample_run first_events
sample-responds = responds S sample_run 1 0 0 4 refl (lit< tt)

-- its bound is safe, and nothing less is
pub sample-safe : Safe S 1 0 5
sample-safe = bound-safe S-kept is_task-2 bound-2

pub sample-tight : ¬ (Safe S 1 0 4)
sample-tight = unsafe S sample_run 1 0 4 sample-legal sample-responds

-- the lone task of the cases, with J 3, B 2 and C 4

one_kept : Kept one
unfolding ticking
one_kept =
    record {
      edition = refl;
      some_frame = lit≤ tt;
      frame = lit≤ tt;
      some_transaction = lit≤ tt;
      few_transactions = lit≤ tt;
      few_tasks = lit≤ tt;
      each = each;
    }
  where
    times : (m : ℕ) → m < 1 → get_or (4 ∷ []) m 0 < 2 ^ 24
    times zero h = lit< tt
    times (suc m) h = absurd (omega arith)

    only : (j : ℕ) → j < 1 → KeptTask 1 (get_or (transaction one 0).tasks j no_task)
    only zero h =
        record {
          offset = lit< tt;
          jitter = lit< tt;
          blocking = lit< tt;
          deadline = lit< tt;
          due = lit≤ tt;
          priority = lit< tt;
          times = refl;
          time = times;
          runs = record { mode = 0; within = lit< tt; some = lit< tt };
          keepable = lit≤ tt;
        }
    only (suc j) h = absurd (omega arith)

    each : (u : ℕ) → u < 1 → KeptTransaction 10 (transaction one u)
    each zero h =
        record {
          period = lit≤ tt;
          divides = refl;
          some_mode = lit≤ tt;
          few_modes = lit≤ tt;
          some_task = lit≤ tt;
          few_tasks = lit≤ tt;
          each = only;
        }
    each (suc u) h = absurd (omega arith)

-- its first job is ready J after its arrival, and B ticks are idled before it is served
unfoldable pub long_run : Run
long_run = dispatched one (delayed one (λ i. 0) 3) 5

pub long-legal : Legal one long_run
unfolding dispatching long_run
long-legal =
    dispatched-legal one one_kept (delayed one (λ i. 0) 3) 5 (idle-beginning one one_kept (λ i. 0) 3 delay 2 lower)
  where
    delay : (i j : ℕ) → IsTask one i j → 3 ≤ jitter one i j
    delay zero zero h = lit≤ tt
    delay zero (suc j) h = absurd (omega (arith, h.place))
    delay (suc i) j h = absurd (omega (arith, h.owner))

    lower : (i j : ℕ) → IsTask one i j → 2 ≤ blocking one i j
    lower zero zero h = lit≤ tt
    lower zero (suc j) h = absurd (omega (arith, h.place))
    lower (suc i) j h = absurd (omega (arith, h.owner))

pub long-responds : RespondsIn one long_run 0 0 0 9
unfolding dispatching long_run
long-responds = responds one long_run 0 0 0 8 refl (lit< tt)

pub long-tight : ¬ (Safe one 0 0 8)
long-tight = unsafe one long_run 0 0 8 long-legal long-responds

-- its bound, as S's is computed beside the definitions: J + B + C
pub long-bound : answer imposed one 0 0 100 ≡ bound 9 3 (record { mode = 0; candidate = 0; job = 0 })
unfolding computing
long-bound = refl

-- and no legal run begins by idling one tick more
pub idling-begun : ¬ (Extension one lazy 4)
unfolding ticking
idling-begun x =
    omega (arith, (begun one lazy 4 x).holds 0 0 is_one 1 3 (lit≤ tt) (λ v l. lazy-pending (1 + v) (omega arith)))
