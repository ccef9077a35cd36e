-- Runs that break a rule, most of a lone task with T 10, J 3, B 2 and C 4: each stands one tick, or one step, past what is
-- permitted.
use Rattle.std.specs.Prelude.{◌≡◌, refl, [], ◌∷◌, ℕ, zero, suc, ◌+◌, ◌*◌, ◌≤◌, ◌<◌}
use Rattle.std.proofs.Common.{zero-le, arith, lit<, lit≤}
use Rattle.std.proofs.Math.Decide.{ℕ_discrete}
use Rattle.table.specs.Table.{Table, IsTask, offset, time}
use Rattle.table.specs.Sample.{S, lone, table, transaction, task}
use Rattle.analysis.specs.Choice.{when}
use Rattle.runs.specs.Run.{Slot, idle, job, Run, served}
use Rattle.runs.specs.Choices.{Permitted}
use Rattle.runs.specs.Legal.{Rules, Pending, Backlog, Stretch, Holds, HoldsWidely, lower}
use Rattle.runs.specs.Computing.{ticking}

-- a lone task, with J 3, B 2 and C 4
abbrev pub one : Table
one = lone 10 (task 0 3 2 9 5 (4 ∷ []))

pub is_one : IsTask one 0 0
unfolding ticking
is_one = record { owner = lit< tt; place = lit< tt }

-- Event k comes at 1 + 10k. What is permitted: the one mode, ready on arrival, C ticks
abbrev run : (mode ready need : ℕ → ℕ) (at : ℕ → Slot) → Run
run mode ready need at =
    record {
      event = λ i. 1;
      mode = λ i k. mode k;
      ready = λ i j k. ready k;
      need = λ i j k. need k;
      at = at;
    }

abbrev on_arrival : ℕ → ℕ
on_arrival k = 1 + k * 10

abbrev always : (n k : ℕ) → ℕ
always n k = n

abbrev idles : ℕ → Slot
idles v = idle

-- ---- choices

-- one tick more of delay than J
pub late : ¬ (Permitted one (run (always 0) (λ k. on_arrival k + 4) (always 4) idles))
unfolding ticking
late x = omega (arith, x.prompt 0 0 0 is_one)

-- ready one tick before its arrival
pub early : ¬ (Permitted one (run (always 0) (λ k. k * 10) (always 4) idles))
unfolding ticking
early x = omega (arith, x.arrived 0 0 0 is_one)

-- J 12: the second job is ready on arrival, and before the first, which is ready 12 after its own
pub disorder :
    ¬ (Permitted
    (lone 10 (task 0 12 0 20 1 (4 ∷ [])))
    (run (always 0) (λ k. on_arrival k + when (ℕ_discrete k 0) 12) (always 4) idles)
    )
unfolding ticking
disorder x = omega (arith, x.in_order 0 0 0 (record { owner = lit< tt; place = lit< tt }))

-- a need of one tick more than C, and of none where C is not 0
pub needy : ¬ (Permitted one (run (always 0) on_arrival (always 5) idles))
unfolding ticking
needy x = omega (arith, x.need_most 0 0 0 is_one)

pub needless : ¬ (Permitted one (run (always 0) on_arrival (always 0) idles))
unfolding ticking
needless x = omega (arith, x.need_some 0 0 0 is_one (lit< tt))

-- a mode that is not there, and one that changes
pub modeless : ¬ (Permitted one (run (always 1) on_arrival (always 4) idles))
unfolding ticking
modeless x = omega (arith, x.mode 0 0 (lit< tt))

pub changing :
    ¬ (Permitted
    (table 10 (transaction 10 2 (task 0 3 2 9 5 (4 ∷ 4 ∷ []) ∷ []) ∷ []))
    (run (λ k. when (ℕ_discrete k 0) 1) on_arrival (always 4) idles)
    )
unfolding ticking
changing x = omega (arith, x.steady 0 1 (lit< tt))

-- ---- service

-- served though it is no task of the table
pub foreign : ¬ (Rules one (run (always 0) on_arrival (always 4) (λ v. job 1 0 0)))
unfolding ticking
foreign r = omega (arith, (r.serving 1 1 0 0 refl).is_task.owner)

-- served one tick before it is ready
pub unready : ¬ (Rules one (run (always 0) on_arrival (always 4) (λ v. job 0 0 0)))
unready r = omega (arith, (r.serving 0 0 0 0 refl).is_ready)

-- idling before tick n, and from there on this job only
unfoldable pub onward : (n : ℕ) → Slot → ℕ → Slot
onward zero s v = s
onward (suc n) s zero = idle
onward (suc n) s (suc v) = onward n s v

-- served one tick after its need is met
pub overserved : ¬ (Rules one (run (always 0) on_arrival (always 4) (onward 1 (job 0 0 0))))
unfolding ticking onward
overserved r = omega (arith, (r.serving 5 0 0 0 refl).unfinished)

-- served though the job before it has not finished
pub overtaking : ¬ (Rules one (run (always 0) on_arrival (always 4) (onward 11 (job 0 0 1))))
unfolding ticking onward
overtaking r = omega (arith, (r.serving 11 0 0 1 refl).ordered 0 (lit< tt))

-- ---- holding

-- permitted choices, and idling for ever
abbrev pub lazy : Run
lazy = run (always 0) on_arrival (always 4) idles

lazy-served : (t : ℕ) → served lazy 0 0 0 t ≡ 0
unfolding ticking
lazy-served zero = refl
lazy-served (suc t) = omega (arith, lazy-served t)

-- the first job is pending from tick 1 on, and left over from tick 2 on
pub lazy-pending : (t : ℕ) → 1 ≤ t → Pending one lazy 5 t
unfolding ticking
lazy-pending t h =
    record { i = 0; j = 0; k = 0; is_task = is_one; urgent = lit≤ tt; ready = h; unfinished = omega (arith, lazy-served t) }

pub lazy-backlog : (t : ℕ) → 1 < t → Backlog one lazy 5 t
unfolding ticking
lazy-backlog t h =
    record { i = 0; j = 0; k = 0; is_task = is_one; urgent = lit≤ tt; ready = h; unfinished = omega (arith, lazy-served t) }

-- before it is ready nothing is pending, and in its ready tick nothing is left over
pub not-pending : ¬ (Pending one lazy 5 0)
not-pending x = omega (arith, x.ready)

pub no-backlog : ¬ (Backlog one lazy 5 1)
no-backlog x = omega (arith, x.ready)

-- one tick more of idling than B, by either reading of a stretch
pub idling : ¬ (Holds one lazy 0 0)
unfolding ticking
idling h = omega (arith, h 1 3 (λ v l. lazy-pending (1 + v) (omega arith)))

pub idling-widely : ¬ (HoldsWidely one lazy 0 0)
unfolding ticking
idling-widely h =
    omega (arith, h 1 3 (λ v l m. lazy-backlog (1 + v) (omega arith)) (λ v l. lazy-pending (1 + v) (omega arith)))

-- a job is lower work for a greater priority than its own, not for an equal one; idling is so for every priority
pub lower-work : (lower S 1 (job 1 0 0) ≡ 0) × (lower S 2 (job 1 0 0) ≡ 1) × (lower S 0 idle ≡ 1)
unfolding ticking
lower-work = (refl, refl, refl)

-- In S task 2, of priority 1, is served while task 0, of priority 9 and B 0, is pending
abbrev inverted : Run
inverted =
    record {
      event = λ i. 0;
      mode = λ i k. 0;
      ready = λ i j k. k * 20 + offset S i j;
      need = λ i j k. time S i 0 j;
      at = λ v. job 1 0 0;
    }

pub inverting : ¬ (Holds S inverted 0 0)
unfolding ticking
inverting h = omega (arith, h 0 1 pending)
  where
    pending : Stretch S inverted 9 0 1
    pending zero l =
        record { i = 0; j = 0; k = 0; is_task = record { owner = lit< tt; place = lit< tt }; urgent = lit≤ tt; ready = zero-le; unfinished = lit< tt }
    pending (suc v) l = absurd (omega arith)
