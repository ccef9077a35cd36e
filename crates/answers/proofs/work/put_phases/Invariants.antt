use Rattle.row.specs.Row.{table_of}
use Rattle.answers.proofs.Filling.{PhasesTo}
use Rattle.answers.proofs.work.put_phases.Given as goal

abbrev pub invariant-loop-j : goal.invariant-loop-j
invariant-loop-j l = PhasesTo (table_of l.initial.work) l.k l.i l.c l.j l.initial.work l.work
