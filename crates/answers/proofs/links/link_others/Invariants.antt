use Rattle.row.specs.Row.{table_of}
use Rattle.charge.specs.Links.{NextOther}
use Rattle.answers.specs.Work.{others_cell}
use Rattle.answers.specs.Parts.{SameTo, OthersFrom}
use Rattle.answers.proofs.links.link_others.Given as goal

abbrev pub invariant-loop-i : goal.invariant-loop-i
invariant-loop-i l =
    SameTo others_cell l.initial.work l.work
    × (OthersFrom (table_of l.initial.work) l.s.u l.s.a l.i l.work × NextOther (table_of l.initial.work) l.s.u l.s.a l.i l.next)
