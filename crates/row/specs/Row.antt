-- A table as one flat row of numbers, the layout in which it is lent: a header, five cells for each transaction that there
-- may be, and fourteen for each task. The last cell of the header and of a transaction is spare. What lies beyond a
-- table's counts is 0, and so is what is spare.
use Rattle.std.specs.Prelude.{◌≡◌, List, [], ◌∷◌, ◌++◌, if◌then◌else◌, ℕ, ◌+◌, ◌*◌, length, get_or, take, ltb}
use Rattle.table.specs.Sum.{sum}
use Rattle.table.specs.Lists.{list_of, joined, padded}
use Rattle.table.specs.Table.{Task, Transaction, Table, transactions, transaction, tasks, task}
use Rattle.table.specs.Number.{before, in_all}
use Rattle.table.specs.Limits.{transactions_most, modes_most, tasks_in_all}
use Rattle.table.specs.Kept.{Kept}

-- how many cells a header, a transaction and a task have; the times of a task are its last

abbrev pub times_cell : ℕ
times_cell = 6

abbrev pub header_cells : ℕ
header_cells = 5

abbrev pub transaction_cells : ℕ
transaction_cells = 5

abbrev pub task_cells : ℕ
task_cells = times_cell + modes_most

-- where the cells of the tasks start, and where they end
abbrev pub tasks_cell : ℕ
tasks_cell = header_cells + transactions_most * transaction_cells

abbrev pub row_cells : ℕ
row_cells = tasks_cell + tasks_in_all * task_cells

-- the cells of the header

abbrev pub edition_cell : ℕ
edition_cell = 0

abbrev pub frame_cell : ℕ
frame_cell = 1

abbrev pub count_cell : ℕ
count_cell = 2

abbrev pub in_all_cell : ℕ
in_all_cell = 3

-- of a transaction: its first cell, and each field counted from there

abbrev pub transaction_cell : ℕ → ℕ
transaction_cell u = header_cells + u * transaction_cells

abbrev pub period_cell : ℕ
period_cell = 0

abbrev pub modes_cell : ℕ
modes_cell = 1

abbrev pub first_cell : ℕ
first_cell = 2

abbrev pub has_cell : ℕ
has_cell = 3

-- of the task with number k

abbrev pub task_cell : ℕ → ℕ
task_cell k = tasks_cell + k * task_cells

abbrev pub offset_cell : ℕ
offset_cell = 0

abbrev pub jitter_cell : ℕ
jitter_cell = 1

abbrev pub blocking_cell : ℕ
blocking_cell = 2

abbrev pub deadline_cell : ℕ
deadline_cell = 3

abbrev pub priority_cell : ℕ
priority_cell = 4

abbrev pub owner_cell : ℕ
owner_cell = 5

-- what stands in the cells of a transaction whose first task has the number `first`, and of a task of transaction u

unfoldable pub of_transaction : ℕ → Transaction → List ℕ
of_transaction first x = x.period ∷ x.modes ∷ first ∷ length x.tasks ∷ 0 ∷ []

unfoldable pub of_task : ℕ → Task → List ℕ
of_task u t =
    t.offset
    ∷ t.jitter
    ∷ t.blocking
    ∷ t.deadline
    ∷ t.priority
    ∷ u
    ∷ list_of modes_most (λ m. get_or t.times m 0)

unfoldable pub of_header : Table → List ℕ
of_header tab = tab.edition ∷ tab.frame ∷ transactions tab ∷ in_all tab ∷ 0 ∷ []

-- the row of a table
unfoldable pub row_of : Table → List ℕ
row_of tab =
    padded row_cells
    (padded tasks_cell (of_header tab ++ joined (transactions tab) (λ u. of_transaction (before tab u) (transaction tab u)))
    ++ joined (transactions tab) (λ u. joined (tasks tab u) (λ j. of_task u (task tab u j))))

-- the empty row
abbrev pub empty_row : List ℕ
empty_row = padded row_cells []

-- The table that any row holds: document 01's fields alone, with the tasks in order. The number of tasks in all, of a
-- transaction's first task and of a task's transaction follow from them, and their cells are not looked at

unfoldable pub task_of : List ℕ → (modes k : ℕ) → Task
task_of row modes k =
    record {
      offset = get_or row (task_cell k + offset_cell) 0;
      jitter = get_or row (task_cell k + jitter_cell) 0;
      blocking = get_or row (task_cell k + blocking_cell) 0;
      deadline = get_or row (task_cell k + deadline_cell) 0;
      priority = get_or row (task_cell k + priority_cell) 0;
      times = list_of modes (λ m. get_or row (task_cell k + (times_cell + m)) 0);
    }

-- how many tasks it says stand before transaction u
unfoldable pub tasks_before : List ℕ → ℕ → ℕ
tasks_before row u = sum u (λ v. get_or row (transaction_cell v + has_cell) 0)

unfoldable pub transaction_of : List ℕ → ℕ → Transaction
transaction_of row u =
    record {
      period = get_or row (transaction_cell u + period_cell) 0;
      modes = get_or row (transaction_cell u + modes_cell) 0;
      tasks =
          list_of (get_or row (transaction_cell u + has_cell) 0)
          (λ j. task_of row (get_or row (transaction_cell u + modes_cell) 0) (tasks_before row u + j));
    }

unfoldable pub table_of : List ℕ → Table
table_of row =
    record {
      edition = get_or row edition_cell 0;
      frame = get_or row frame_cell 0;
      transactions = list_of (get_or row count_cell 0) (transaction_of row);
    }

-- the row is, or begins with, that of a table that keeps the bounds on a table: there every cell is right
pub record RowOfTable (row : List ℕ) : Type 0 where
  pub kept : Kept (table_of row)
  pub is_row : row_of (table_of row) ≡ take row_cells row

-- What a reader gives: cell i of transaction u, and of the task with number k; 0 where there may be no such one

unfoldable pub head_cell : List ℕ → (u i : ℕ) → ℕ
head_cell row u i = if ltb u transactions_most then get_or row (transaction_cell u + i) 0 else 0

unfoldable pub body_cell : List ℕ → (k i : ℕ) → ℕ
body_cell row k i = if ltb k tasks_in_all then get_or row (task_cell k + i) 0 else 0

-- the time in mode m of the task with number k
unfoldable pub time_cell : List ℕ → (k m : ℕ) → ℕ
time_cell row k m = if ltb m modes_most then body_cell row k (times_cell + m) else 0
