-- What the readers give of a row that is, or begins with, the row of a kept table: each field of it, by the transaction or
-- by the task's number, and the cells that follow from others.
use mathlib.Core.Path.{◌≡◌, sym, ap, ◌∙◌}
use mathlib.Core.List.{List}
use Prim.Native.Nat.{ℕ, ◌+◌, ◌≤◌, ◌<◌}
use native.Mathlib.Omega.{arith}
use lib.ListN.{get_or}
use lib.Seq.{take_all, get_or-take}
use Rattle.table.specs.Limits.{modes_most, tasks_in_all}
use Rattle.table.specs.Table.{Table, transactions, period, modes, tasks, offset, jitter, blocking, deadline, priority, time, IsTask}
use Rattle.table.specs.Number.{before, in_all, number}
use Rattle.table.specs.Kept.{Kept}
use Rattle.table.proofs.Number.{number_lt}
use Rattle.row.specs.Row.{task_cells, row_cells, in_all_cell, transaction_cell, period_cell, modes_cell, first_cell, has_cell, task_cell, offset_cell, jitter_cell, blocking_cell, deadline_cell, priority_cell, owner_cell, row_of, table_of, RowOfTable, head_cell, body_cell, time_cell}
use Rattle.row.proofs.Readers.{head-cell, body-cell, time-cell}
use Rattle.row.proofs.Held.{held-period, held-modes, held-tasks, held-offset, held-jitter, held-blocking, held-deadline, held-priority, held-time}
use Rattle.row.proofs.Rows.{row-size, row-holds, row-in-all, row_first, row-owner}

-- the row of a kept table is one
pub row-of-table : {tab : Table} → Kept tab → RowOfTable (row_of tab)
row-of-table {tab} kept =
    let same : table_of (row_of tab) ≡ tab = row-holds tab kept in
    record {
      kept = rw same kept;
      is_row = ap row_of same ∙ sym (take_all row_cells (row_of tab) (omega (arith, row-size tab kept)));
    }

module _ {row : List ℕ} (is : RowOfTable row) where
  in_row : {n : ℕ} → n < row_cells → get_or row n 0 ≡ get_or (row_of (table_of row)) n 0
  in_row {n} l = rw is.is_row (sym (get_or-take row_cells row n 0 l))

  pub in-all-cell : get_or row in_all_cell 0 ≡ in_all (table_of row)
  in-all-cell = in_row (omega arith) ∙ row-in-all (table_of row) is.kept

  -- ---- transaction u

  module _ {u : ℕ} (h : u < transactions (table_of row)) where
    pub head-there : (i : ℕ) → head_cell row u i ≡ get_or row (transaction_cell u + i) 0
    head-there i = head-cell row u i (omega (arith, is.kept.few_transactions))

    pub read-period : head_cell row u period_cell ≡ period (table_of row) u
    read-period = head-there period_cell ∙ sym (held-period row h)

    pub read-modes : head_cell row u modes_cell ≡ modes (table_of row) u
    read-modes = head-there modes_cell ∙ sym (held-modes row h)

    pub read-tasks : head_cell row u has_cell ≡ tasks (table_of row) u
    read-tasks = head-there has_cell ∙ sym (held-tasks row h)

    pub read_first : head_cell row u first_cell ≡ before (table_of row) u
    read_first =
        head-there first_cell
        ∙ in_row (omega (arith, is.kept.few_transactions))
        ∙ row_first (table_of row) is.kept u h

  -- ---- task j of transaction u, by its number

  module _ {u j : ℕ} (t : IsTask (table_of row) u j) where
    -- a task's cells are cells of the row
    pub task-within : task_cell (number (table_of row) u j) + task_cells ≤ row_cells
    task-within = omega (arith, number_lt (table_of row) t, is.kept.few_tasks)

    few : number (table_of row) u j < tasks_in_all
    few = omega (arith, number_lt (table_of row) t, is.kept.few_tasks)

    pub body-there : (i : ℕ) → body_cell row (number (table_of row) u j) i ≡ get_or row (task_cell (number (table_of row) u j) + i) 0
    body-there i = body-cell row (number (table_of row) u j) i few

    pub read-offset : body_cell row (number (table_of row) u j) offset_cell ≡ offset (table_of row) u j
    read-offset = body-there offset_cell ∙ sym (held-offset row t)

    pub read-jitter : body_cell row (number (table_of row) u j) jitter_cell ≡ jitter (table_of row) u j
    read-jitter = body-there jitter_cell ∙ sym (held-jitter row t)

    pub read-blocking : body_cell row (number (table_of row) u j) blocking_cell ≡ blocking (table_of row) u j
    read-blocking = body-there blocking_cell ∙ sym (held-blocking row t)

    pub read-deadline : body_cell row (number (table_of row) u j) deadline_cell ≡ deadline (table_of row) u j
    read-deadline = body-there deadline_cell ∙ sym (held-deadline row t)

    pub read-priority : body_cell row (number (table_of row) u j) priority_cell ≡ priority (table_of row) u j
    read-priority = body-there priority_cell ∙ sym (held-priority row t)

    pub read-owner : body_cell row (number (table_of row) u j) owner_cell ≡ u
    read-owner = body-there owner_cell ∙ in_row (omega (arith, task-within)) ∙ row-owner (table_of row) is.kept u j t

    pub read-time : {m : ℕ} → m < modes (table_of row) u → time_cell row (number (table_of row) u j) m ≡ time (table_of row) u m j
    unfolding modes
    read-time {m} h =
        let narrow : m < modes_most = omega (arith, (is.kept.each u t.owner).few_modes) in
        time-cell row (number (table_of row) u j) m few narrow ∙ sym (held-time row t h)
