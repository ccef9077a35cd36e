use Rattle.row.specs.Row.{table_of}
use Rattle.answers.specs.Work.{settings_cell}
use Rattle.answers.specs.Parts.{SameTo}
use Rattle.answers.proofs.Linking.{LinksFrom}
use Rattle.answers.proofs.links.link_task.Given as goal

abbrev pub invariant-loop-m : goal.invariant-loop-m
invariant-loop-m l = SameTo settings_cell l.initial.work l.work × LinksFrom (table_of l.initial.work) l.s.u l.s.a l.k l.i l.m l.next l.work
