-- The loop makes the pass, task by task.
use Rattle.beside.proofs.Passes.{pass-none}
use Rattle.beside.proofs.completion.Step.over_all.Goals as goal

pub loop-i-init : goal.loop-i-init
loop-i-init c = pass-none c.args.self.now.task.single_row.table.kept _ _
