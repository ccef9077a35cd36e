use Prim.Native.Nat.{◌*◌}
use Rattle.row.specs.Row.{table_of}
use Rattle.table.specs.Limits.{modes_most}
use Rattle.answers.specs.Work.{weights_cell}
use Rattle.answers.specs.Parts.{SameTo, WeighedTo}
use Rattle.answers.proofs.work.weigh.Given as goal

abbrev pub invariant-loop-i : goal.invariant-loop-i
invariant-loop-i l = SameTo weights_cell l.initial.work l.work × WeighedTo (table_of l.initial.work) l.s.u l.s.a (modes_most * l.i) l.work
