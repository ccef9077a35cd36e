-- The row of S, computed.
use mathlib.Core.Path.{◌≡◌, refl}
use mathlib.Core.List.{List, [], ◌∷◌}
use Prim.Native.Nat.{ℕ, ◌+◌}
use lib.ListN.{take, drop, set}
use Rattle.table.specs.Sum.{sum}
use Rattle.table.specs.Table.{transactions, transaction, tasks, task, offset, priority}
use Rattle.table.specs.Number.{before, in_all}
use Rattle.table.specs.Sample.{S}
use Rattle.table.specs.Lists.{list_of, joined, padded}
use Rattle.table.specs.Computing.{computing}
use Rattle.row.specs.Row.{tasks_cell, transaction_cell, has_cell, task_cell, offset_cell, priority_cell, of_transaction, of_task, of_header, row_of, task_of, tasks_before, transaction_of, table_of}

-- S with three tasks in transaction 0, and numbers for the task that then has the number 3
abbrev edited : List ℕ
edited =
    set (set (set (row_of S) (transaction_cell 0 + has_cell) 3) (task_cell 3 + offset_cell) 7) (task_cell 3 + priority_cell) 6

-- the row of S: the header, its two transactions, and behind all transactions that there may be its three tasks
S-heads : take 20 (row_of S) ≡ 1 ∷ 20 ∷ 2 ∷ 3 ∷ 0 ∷ 20 ∷ 1 ∷ 0 ∷ 2 ∷ 0 ∷ 20 ∷ 1 ∷ 2 ∷ 1 ∷ 0 ∷ 0 ∷ 0 ∷ 0 ∷ 0 ∷ 0 ∷ []
unfolding row_of of_header of_transaction of_task joined padded list_of transactions transaction tasks task in_all before sum
S-heads = refl

S-tasks :
    take 43 (drop tasks_cell (row_of S))
    ≡ 0 ∷ 0 ∷ 0 ∷ 10 ∷ 9 ∷ 0 ∷ 2 ∷ 0 ∷ 0 ∷ 0 ∷ 0 ∷ 0 ∷ 0 ∷ 0
    ∷ 4 ∷ 0 ∷ 0 ∷ 10 ∷ 8 ∷ 0 ∷ 3 ∷ 0 ∷ 0 ∷ 0 ∷ 0 ∷ 0 ∷ 0 ∷ 0
    ∷ 0 ∷ 0 ∷ 0 ∷ 4 ∷ 1 ∷ 1 ∷ 2 ∷ 0 ∷ 0 ∷ 0 ∷ 0 ∷ 0 ∷ 0 ∷ 0
    ∷ 0
    ∷ []
unfolding row_of of_header of_transaction of_task joined padded list_of transactions transaction tasks task in_all before sum
S-tasks = refl

-- an editor adds a task to transaction 0 by its fields alone: the cells that follow from others are not looked at
changed : transactions (table_of edited) ∷ tasks (table_of edited) 0 ∷ tasks (table_of edited) 1 ∷ offset (table_of edited) 1 0 ∷ priority (table_of edited) 1 0 ∷ [] ≡ 2 ∷ 3 ∷ 1 ∷ 7 ∷ 6 ∷ []
unfolding computing table_of transaction_of task_of tasks_before row_of of_header of_transaction of_task joined padded list_of
changed = refl
