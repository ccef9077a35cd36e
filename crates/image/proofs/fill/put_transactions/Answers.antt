-- `fill::put_transactions` meets its contract. The invariant: the cells of the first u transactions and of their tasks are stored; of an accepted
-- image they are within the row.
use mathlib.Core.Path.{refl, ◌∙◌}
use Prim.Native.Nat.{◌<◌}
use native.Mathlib.Omega.{arith}
use lib.Dec.{lit<}
use Rattle.table.specs.Sum.{sum}
use Rattle.table.specs.Lists.{joined}
use Rattle.format.specs.Places.{start}
use Rattle.format.specs.Said.{count_in, tasks_before}
use Rattle.image.specs.Fill.{heads_in, every_task_in, transactions_over}
use Rattle.format.proofs.Places.{count_small}
use Rattle.format.proofs.Accepted.{header}
use Rattle.image.proofs.Cells.{head-cells, next-transaction}
use Rattle.image.proofs.Walk.{fits, next-small, next-tasks, next-place}
use Rattle.image.proofs.fill.put_transactions.Goals as goal

pub loop-u-init : goal.loop-u-init
unfolding transactions_over heads_in every_task_in joined start tasks_before sum
loop-u-init c = (refl, refl, lit< tt, lit< tt, refl)

pub put_head-requires-clause-transaction_cells_bound : goal.put_head-requires-clause-transaction_cells_bound
put_head-requires-clause-transaction_cells_bound c = omega (arith, count_small c.args.image.now, c.requires.count_value)

pub put_tasks-requires-clause-modes_le_modes_most : goal.put_tasks-requires-clause-modes_le_modes_most
put_tasks-requires-clause-modes_le_modes_most c =
    let said = rw (c.new-t.ensures.image_value, c.new-t.ensures.at_value) at c.new-t.result.head_value in
    (fits c.args.image.now c.loop-u.u c.loop-u.invariant.0 c.loop-u.invariant.1 said c.requires.accepted (omega (arith, c.loop-u-test.true, c.requires.count_value))).0

pub put_tasks-requires-clause-task_cells_bound : goal.put_tasks-requires-clause-task_cells_bound
put_tasks-requires-clause-task_cells_bound c =
    let said = rw (c.new-t.ensures.image_value, c.new-t.ensures.at_value) at c.new-t.result.head_value in
    omega (arith, fits c.args.image.now c.loop-u.u c.loop-u.invariant.0 c.loop-u.invariant.1 said c.requires.accepted (omega (arith, c.loop-u-test.true, c.requires.count_value)))

pub loop-u-preserved : goal.loop-u-preserved
loop-u-preserved c =
    let image = c.args.image.now in
    let u = c.loop-u.u in
    let tasks = c.loop-u.invariant.0 in
    let place = c.loop-u.invariant.1 in
    let said = rw (c.new-t.ensures.image_value, c.new-t.ensures.at_value) at c.new-t.result.head_value in
    let ends = rw c.new-t.ensures.at_value at c.end-at.ensures in
    let counted : u < count_in image = omega (arith, c.loop-u-test.true, c.requires.count_value) in
    let small = next-small image u tasks place said counted in (
      next-tasks image u tasks place said,
      ends ∙ next-place image u tasks place said,
      small.0,
      rw ends small.1,
      c.put_tasks.ensures
          ∙ rw (c.put_head.ensures, said, c.new-t.ensures.image_value, c.new-t.ensures.at_value, c.loop-u.invariant.4, tasks, place)
          (rw (head-cells (tasks_before image u) image (start image u)) at
          (next-transaction image c.args.cells.now u (omega (arith, counted, (header image c.requires.accepted).few)))),
    )
