use Rattle.row.specs.Row.{row_cells, table_of}
use Rattle.answers.specs.Parts.{SameTo, Phased}
use Rattle.answers.proofs.work.prepare.Given as goal

abbrev pub invariant-loop-k : goal.invariant-loop-k
invariant-loop-k l = Phased (table_of l.initial.work) l.k l.work × SameTo row_cells l.initial.work l.work
