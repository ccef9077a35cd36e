use Prim.Native.Nat.{◌+◌, ◌*◌}
use Rattle.row.specs.Row.{table_of}
use Rattle.table.specs.Limits.{modes_most}
use Rattle.answers.specs.Work.{weights_cell}
use Rattle.answers.specs.Parts.{SameTo, WeighedTo}
use Rattle.answers.proofs.work.weigh_transaction.Given as goal

abbrev pub invariant-loop-m : goal.invariant-loop-m
invariant-loop-m l = SameTo weights_cell l.initial.work l.work × WeighedTo (table_of l.initial.work) l.s.u l.s.a (modes_most * l.i + l.m) l.work
