use mathlib.Core.Path.{◌≡◌}
use Rattle.row.specs.Row.{table_of}
use Rattle.answers.specs.Work.{Lent}
use Rattle.told.proofs.Told.{written_to}
use Rattle.answers.proofs.fill.Given as goal

abbrev pub invariant-loop-k : goal.invariant-loop-k
invariant-loop-k l =
    (l.cells ≡ written_to (table_of l.initial.work) l.budget l.initial.cells l.k) × (Lent l.work × (table_of l.work ≡ table_of l.initial.work))
