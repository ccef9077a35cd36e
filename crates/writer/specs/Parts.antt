-- The bits of the parts of a table, by the row's cells: what is put in turn. Together they are the bits of the table.
use Rattle.std.specs.Prelude.{List, ◌++◌, ℕ, ◌+◌, get_or}
use Rattle.bits.specs.Bits.{field_bits}
use Rattle.table.specs.Limits.{edition_width, frame_width, transactions_width, period_width, modes_width, tasks_width, offset_width, jitter_width, blocking_width, deadline_width, priority_width, time_width}
use Rattle.table.specs.Table.{transactions}
use Rattle.format.specs.Image.{task_bits}
use Rattle.row.specs.Row.{transaction_cell, period_cell, modes_cell, has_cell, task_cell, offset_cell, jitter_cell, blocking_cell, deadline_cell, priority_cell, times_cell, task_of, table_of}

unfoldable pub header_bits : List ℕ → List ℕ
header_bits row =
    field_bits edition_width (table_of row).edition
    ++ field_bits frame_width (table_of row).frame
    ++ field_bits transactions_width (transactions (table_of row))

-- of transaction u, before its tasks
unfoldable pub head_bits : List ℕ → (u : ℕ) → List ℕ
head_bits row u =
    field_bits period_width (get_or row (transaction_cell u + period_cell) 0)
    ++ field_bits modes_width (get_or row (transaction_cell u + modes_cell) 0)
    ++ field_bits tasks_width (get_or row (transaction_cell u + has_cell) 0)

-- of the task with number k: its first three fields, and the two before its times

unfoldable pub front_bits : List ℕ → (k : ℕ) → List ℕ
front_bits row k =
    field_bits offset_width (get_or row (task_cell k + offset_cell) 0)
    ++ field_bits jitter_width (get_or row (task_cell k + jitter_cell) 0)
    ++ field_bits blocking_width (get_or row (task_cell k + blocking_cell) 0)

unfoldable pub back_bits : List ℕ → (k : ℕ) → List ℕ
back_bits row k =
    field_bits deadline_width (get_or row (task_cell k + deadline_cell) 0)
    ++ field_bits priority_width (get_or row (task_cell k + priority_cell) 0)

-- its time in mode m
abbrev pub time_bits : List ℕ → (k m : ℕ) → List ℕ
time_bits row k m = field_bits time_width (get_or row (task_cell k + (times_cell + m)) 0)

-- the task with number first + j, of so many modes
abbrev pub task_bits_from : List ℕ → (modes first j : ℕ) → List ℕ
task_bits_from row modes first j = task_bits (task_of row modes (first + j))
