-- `lay::lay_task` meets its contract: its fields, then its times.
use mathlib.Core.Path.{◌∙◌}
use Rattle.writer.proofs.Laid.{task-laid}
use Rattle.writer.proofs.lay.lay_task.Goals as goal

pub returns : goal.returns
returns c =
    let t = c.args.task in
    c.lay_times.ensures ∙ rw (c.lay_back.ensures, c.lay_front.ensures) (task-laid t.row.now c.args.buffer.now t.at t.modes t.number)
