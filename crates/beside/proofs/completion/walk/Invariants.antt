use Rattle.std.proofs.Common.{suc, ◌-◌}
use Rattle.row.specs.Row.{table_of}
use Rattle.jitter.specs.Start.{Sound}
use Rattle.beside.proofs.completion.walk.Given as goal

abbrev pub invariant-loop-t : goal.invariant-loop-t
invariant-loop-t l = Sound (table_of l.task.row.now) l.task.u l.t

abbrev pub decreases-loop-t : goal.decreases-loop-t
decreases-loop-t l = suc l.horizon - l.t
