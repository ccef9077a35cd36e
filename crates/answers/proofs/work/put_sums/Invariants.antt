use Rattle.row.specs.Row.{table_of}
use Rattle.answers.proofs.Weighing.{SumsTo}
use Rattle.answers.proofs.work.put_sums.Given as goal

abbrev pub invariant-loop-c : goal.invariant-loop-c
invariant-loop-c l = SumsTo (table_of l.initial.work) l.s.u l.s.a l.of.i l.of.m l.of.first l.c l.initial.work l.work
