use Rattle.std.proofs.Common.{◌≡◌, ℕ, ◌<◌}
use Rattle.row.specs.Row.{table_of}
use Rattle.table.specs.Table.{Table, tasks, modes}
use Rattle.beside.proofs.is_single.Given as goal

abbrev pub OneEach : Table → ℕ → Type 0
OneEach tab j = (tasks tab j ≡ 1) × (modes tab j ≡ 1)

abbrev pub invariant-loop-i : goal.invariant-loop-i
invariant-loop-i l = (j : ℕ) → j < l.i → OneEach (table_of l.row) j
