-- The quick way to an answer: what lies in the image whole and keeps its rules has no fault.
use mathlib.Core.Path.{◌≡◌, refl}
use mathlib.Core.Bool.{true, ◌&&◌}
use mathlib.Core.List.{List}
use Prim.Native.Nat.{ℕ, ◌+◌, ◌*◌, ◌≤◌}
use native.Mathlib.Omega.{arith}
use lib.ListN.{length}
use lib.Dec.{leb, lit≤}
use borrow.Author.Tests.{le-leb, leb-true, eqb-true}
use Rattle.bits.specs.Bits.{is_inside}
use Rattle.refusals.specs.Answer.{accepted}
use Rattle.refusals.proofs.Findings.{then-joins, holds, both_first, both-second}
use Rattle.table.specs.Sum.{greatest}
use Rattle.table.specs.Limits.{limits, modes_most, tasks_most, tasks_in_all}
use Rattle.table.specs.Fields.{HeadField, TaskField, IsTaskField, width_in_head, width_in_task}
use Rattle.table.specs.Rules.{is_between, is_divisor}
use Rattle.table.specs.Rules.Deadlines.{keepable}
use Rattle.table.proofs.Sum.{greatest-sum}
use Rattle.table.proofs.Rules as rules
use Rattle.format.specs.Places.{place_in_head, place_in_task, head_width, task_width}
use Rattle.format.specs.Said.{frame_in, period_in, modes_in, tasks_in, offset_in, deadline_in, time_in}
use Rattle.format.specs.Computing.{computing}
use Rattle.format.specs.Cases.{last}
use Rattle.format.specs.Fault.{ends_at, look_at, head_fault, task_fault}

-- a part of what is whole
within : (image : List ℕ) (p w q v : ℕ) → is_inside image p w ≡ true → q + v ≤ p + w → ends_at image q v ≡ accepted
within image p w q v whole h = holds _ _ (le-leb (q + v) (8 * length image) (omega (arith, leb-true (p + w) (8 * length image) whole)))

pub whole-task :
    (image : List ℕ) (m q : ℕ)
    → is_inside image q (task_width m) ≡ true
    → 1 ≤ greatest m (time_in image q)
    → offset_in image q + greatest m (time_in image q) ≤ deadline_in image q
    → task_fault image m q ≡ accepted
whole-task image m q whole runs room =
    rules.clear-task keepable then-joins m (look_at image (place_in_task q) width_in_task)
    (record {
      there = λ f there. within image q (task_width m) _ _ whole (reach f there);
      due = omega (arith, runs, room);
      runs = omega (arith, runs, greatest-sum m (time_in image q));
      keepable = room;
    })
  where
    reach : (f : TaskField) → IsTaskField m f → place_in_task q f + width_in_task f ≤ q + task_width m
    reach TaskField.offset h = omega arith
    reach TaskField.jitter h = omega arith
    reach TaskField.blocking h = omega arith
    reach TaskField.deadline h = omega arith
    reach TaskField.priority h = omega arith
    reach (TaskField.time k) h = omega arith

pub whole-head :
    (image : List ℕ) (before p : ℕ)
    → is_inside image p head_width ≡ true
    → (is_divisor (frame_in image) (period_in image p) && (is_between 1 modes_most (modes_in image p) && (is_between 1 tasks_most (tasks_in image p) && leb (before + tasks_in image p) tasks_in_all))) ≡ true
    → head_fault image before p ≡ accepted
whole-head image before p whole keeps =
    let period = both_first (is_divisor (frame_in image) (period_in image p)) _ keeps in
    let counts = both-second (is_divisor (frame_in image) (period_in image p)) _ keeps in
    let modes = both_first (is_between 1 modes_most (modes_in image p)) _ counts in
    let tasks = both-second (is_between 1 modes_most (modes_in image p)) _ counts in
    let few = both_first (is_between 1 tasks_most (tasks_in image p)) _ tasks in
    rules.clear-head limits then-joins (frame_in image) before (look_at image (place_in_head p) width_in_head)
    (record {
      there = λ f. within image p head_width _ _ whole (reach f);
      period = leb-true _ _ (both_first (leb 1 (period_in image p)) _ period);
      divides = eqb-true _ _ (both-second (leb 1 (period_in image p)) _ period);
      some_mode = leb-true _ _ (both_first (leb 1 (modes_in image p)) _ modes);
      few_modes = leb-true _ _ (both-second (leb 1 (modes_in image p)) _ modes);
      some_task = leb-true _ _ (both_first (leb 1 (tasks_in image p)) _ few);
      few_tasks = leb-true _ _ (both-second (leb 1 (tasks_in image p)) _ few);
      in_all = leb-true _ _ (both-second (is_between 1 tasks_most (tasks_in image p)) _ tasks);
    })
  where
    reach : (f : HeadField) → place_in_head p f + width_in_head f ≤ p + head_width
    reach HeadField.period = omega arith
    reach HeadField.modes = omega arith
    reach HeadField.tasks = omega arith

-- document 01's last image: its head and its one task

last-head : head_fault last 0 34 ≡ accepted
unfolding computing
last-head = whole-head last 0 34 refl refl

last-task : task_fault last 1 67 ≡ accepted
unfolding computing
last-task = whole-task last 1 67 refl (lit≤ tt) (lit≤ tt)
