-- `lay::lay_tasks` meets its contract. The invariant: the first j tasks are put.
use mathlib.Core.Path.{refl, ◌∙◌}
use Prim.Native.Nat.{◌*◌}
use Rattle.bits.specs.Put.{bits_put}
use Rattle.table.specs.Lists.{joined}
use Rattle.format.specs.Places.{task_width}
use Rattle.writer.specs.Parts.{task_bits_from}
use Rattle.writer.proofs.Laid.{put-joined, length-tasks}
use Rattle.writer.proofs.lay.lay_tasks.Goals as goal

pub loop-j-init : goal.loop-j-init
unfolding joined bits_put
loop-j-init c = refl

pub loop-j-preserved : goal.loop-j-preserved
loop-j-preserved c =
    let t = c.args.tasks in
    let j = c.loop-j.j in
    let is = c.task.ensures in
    c.lay_task.ensures
    ∙ rw (is.row_value, is.number_value, is.modes_value, is.at_value, c.loop-j.invariant)
    (put-joined c.args.buffer.now t.at j (j * task_width t.modes) (task_bits_from t.row.now t.modes t.first) (length-tasks t.row.now t.modes t.first j))
