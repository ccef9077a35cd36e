use Rattle.row.specs.Row.{table_of}
use Rattle.answers.proofs.Weighing.{WeightsTo}
use Rattle.answers.proofs.work.put_weights.Given as goal

abbrev pub invariant-loop-j : goal.invariant-loop-j
invariant-loop-j l = WeightsTo (table_of l.initial.work) l.s.u l.s.a l.of.i l.of.m l.of.first l.j l.mode_weight l.initial.work l.work
