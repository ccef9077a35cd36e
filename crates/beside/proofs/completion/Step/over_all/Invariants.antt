use Rattle.row.specs.Row.{table_of}
use Rattle.beside.specs.Search.{IsPass}
use Rattle.beside.proofs.completion.Step.over_all.Given as goal

abbrev pub invariant-loop-i : goal.invariant-loop-i
invariant-loop-i l = IsPass (table_of l.self.task.row.now) l.self.task.u l.self.t l.i l.seen
