-- `fill::put_tasks` meets its contract. The invariant: the cells of the first j tasks are stored.
use mathlib.Core.Path.{◌≡◌, refl, ◌∙◌}
use Prim.Native.Nat.{◌+◌}
use native.Mathlib.Omega.{arith}
use Rattle.table.specs.Lists.{joined}
use Rattle.format.specs.Places.{head_width}
use Rattle.image.specs.Fill.{tasks_cells, of_tasks_in}
use Rattle.image.proofs.Cells.{next-task}
use Rattle.image.proofs.fill.put_tasks.Goals as goal

pub loop-j-init : goal.loop-j-init
unfolding tasks_cells joined
loop-j-init c = refl

pub loop-j-preserved : goal.loop-j-preserved
loop-j-preserved c =
    let t = c.args.t in
    c.put_task.ensures
    ∙ rw (c.loop-j.invariant, c.task.ensures.image_value, c.task.ensures.modes_value, c.task.ensures.at_value)
    (next-task t.image.now t.head.modes (t.at + head_width) c.args.owner c.args.cells.now c.args.cell c.loop-j.j)

pub returns : goal.returns
unfolding of_tasks_in
returns c =
    let t = c.args.t in
    let all : c.loop-j.j ≡ t.head.tasks = omega arith in
    rw (all, t.head_value) at c.loop-j.invariant
