use Prim.Native.Nat.{◌*◌}
use Rattle.row.specs.Row.{table_of}
use Rattle.table.specs.Limits.{modes_most}
use Rattle.charge.specs.Links.{NextSetting}
use Rattle.answers.specs.Work.{settings_cell}
use Rattle.answers.specs.Parts.{SameTo, LinkedFrom}
use Rattle.answers.proofs.links.link_settings.Given as goal

abbrev pub invariant-loop-k : goal.invariant-loop-k
invariant-loop-k l =
    SameTo settings_cell l.initial.work l.work
    × (LinkedFrom (table_of l.initial.work) l.s.u l.s.a l.k l.work × NextSetting (table_of l.initial.work) l.s.u l.s.a (modes_most * l.k) l.next)
