-- `owner_at` meets its contract. The invariant: `at` is where transaction u starts, `before` the tasks before it, and the place
-- does not lie before it.
use mathlib.Core.Path.{◌≡◌, refl}
use Prim.Native.Nat.{◌+◌}
use native.Mathlib.Numerals.{add-one}
use native.Mathlib.Omega.{arith}
use Rattle.table.specs.Sum.{sum}
use Rattle.format.specs.Places.{start}
use Rattle.format.specs.Said.{count_in, tasks_before}
use Rattle.places.proofs.Walk.{next-start, next-tasks, walk-small}
use Rattle.places.proofs.owner_at.Goals as goal

pub loop-u-init : goal.loop-u-init
unfolding start tasks_before sum
loop-u-init c = record { tasks = refl; starts = refl; reached = c.requires; few = omega arith; near = omega arith }

pub returns-then-place-end : goal.returns-then-place-end
returns-then-place-end c =
    let walk = c.loop-u.invariant in
    let end = next-start _ c.loop-u.u walk.starts c.modes_at-modes.ensures.is c.tasks_at-tasks.ensures.is c.task_width.ensures in
    record {
      counted = omega (arith, c.value-count.ensures);
      owns = record { from = rw walk.starts at walk.reached; below = rw (end, add-one) at c.if-place-end.true };
      tasks = walk.tasks;
      modes = rw (← walk.starts) c.modes_at-modes.ensures.is;
      starts = walk.starts;
    }

pub loop-u-preserved : goal.loop-u-preserved
loop-u-preserved c =
    let walk = c.loop-u.invariant in
    let u = c.loop-u.u in
    let starts = next-start _ u walk.starts c.modes_at-modes.ensures.is c.tasks_at-tasks.ensures.is c.task_width.ensures in
    let tasks = next-tasks _ u walk.starts walk.tasks c.tasks_at-tasks.ensures.is in
    let small = walk-small _ (u + 1) (omega (arith, c.value-count.ensures)) starts tasks in
    record { tasks = tasks; starts = starts; reached = c.if-place-end.false; few = small.0; near = small.1 }

pub returns : goal.returns
returns c =
    let last : c.loop-u.u ≡ count_in c.args.image.now = omega (arith, c.value-count.ensures) in
    rw (← last, ← c.loop-u.invariant.starts) c.loop-u.invariant.reached
