-- A walk over the transactions of a row, which keeps where the next one starts and how many tasks stand before it.
use mathlib.Core.Path.{◌≡◌}
use mathlib.Core.List.{List}
use Prim.Native.Nat.{ℕ, ◌+◌, ◌*◌, ◌<◌}
use Rattle.table.specs.Limits.{transactions_most}
use Rattle.table.specs.Table.{transactions}
use Rattle.table.specs.Number as numbered
use Rattle.table.specs.Kept.{Kept}
use Rattle.row.specs.Row.{modes_cell, has_cell, tasks_before, table_of, head_cell}
use Rattle.format.specs.Places.{head_width, task_width}
use Rattle.format.specs.Write.{start_of}
use Rattle.writer.proofs.Scanned.{modes-there, tasks-there, next_start, next-before}
use Rattle.writer.proofs.Laid.{next-tasks}

module _ (row : List ℕ) (u : ℕ) (few : u < transactions_most) where
  module _ (there : u < transactions (table_of row)) where
    pub next-place :
        {at first count modes : ℕ}
        → at ≡ start_of (table_of row) u
        → first ≡ at + head_width
        → count ≡ head_cell row u has_cell
        → modes ≡ head_cell row u modes_cell
        → first + count * task_width modes ≡ start_of (table_of row) (u + 1)
    next-place starts first count modes = rw (next_start row u, ← starts, first, count, modes, modes-there row there few, tasks-there row there few)

    pub next-number :
        {before count : ℕ}
        → before ≡ numbered.before (table_of row) u
        → count ≡ head_cell row u has_cell
        → before + count ≡ numbered.before (table_of row) (u + 1)
    next-number before count = rw (next-before row u, ← before, count, tasks-there row there few)

  -- the same by the row's counts alone
  pub next-said : Kept (table_of row) → {first count : ℕ} → first ≡ tasks_before row u → count ≡ head_cell row u has_cell → first + count ≡ tasks_before row (u + 1)
  next-said kept first count = rw (next-tasks row kept u few, ← first, ← count)
