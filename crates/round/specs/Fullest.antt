-- A table as full as one may be: every transaction and every task that the limits allow, and every mode.
use Rattle.std.specs.Prelude.{ℕ, ◌+◌, ◌/◌}
use Rattle.table.specs.Table.{Task, Transaction, Table}
use Rattle.table.specs.Limits.{edition_known, transactions_most, modes_most, tasks_in_all}
use Rattle.table.specs.Lists.{list_of}

unfoldable pub fullest_task : Task
fullest_task = record { offset = 0; jitter = 0; blocking = 0; deadline = 1; priority = 0; times = list_of modes_most (λ m. 1) }

-- the tasks are shared out evenly
unfoldable pub fullest_transaction : (u : ℕ) → Transaction
fullest_transaction u = record { period = 1; modes = modes_most; tasks = list_of ((tasks_in_all + u) / transactions_most) (λ j. fullest_task) }

unfoldable pub fullest : Table
fullest = record { edition = edition_known; frame = 1; transactions = list_of transactions_most fullest_transaction }
