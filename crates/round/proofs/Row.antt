-- The table that any row holds can be written: each of its tasks has one time for each mode.
use mathlib.Core.Path.{ap, ◌∙◌}
use mathlib.Core.List.{List}
use Prim.Native.Nat.{ℕ}
use lib.ListN.{length}
use Rattle.table.specs.Table.{Task, modes}
use Rattle.table.specs.Fields.{Timed}
use Rattle.table.proofs.Lists.{length-list_of}
use Rattle.row.specs.Row.{task_of, table_of}
use Rattle.row.proofs.Held.{task-there}

pub row-timed : (row : List ℕ) → Timed (table_of row)
unfolding task_of
row-timed row =
    record { times = λ u j is. ap (λ (t : Task). length t.times) (task-there row is) ∙ length-list_of (modes (table_of row) u) _ }
