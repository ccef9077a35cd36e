-- What the readers give where there may be such a transaction, task and mode: the row's own cells.
use mathlib.Core.Path.{◌≡◌}
use mathlib.Core.List.{List}
use Prim.Native.Nat.{ℕ, ◌+◌, ◌<◌}
use lib.ListN.{get_or}
use borrow.Author.Tests.{lt-ltb}
use Rattle.table.specs.Limits.{transactions_most, modes_most, tasks_in_all}
use Rattle.row.specs.Row.{transaction_cell, task_cell, times_cell, head_cell, body_cell, time_cell}

module _ (row : List ℕ) where
  pub head-cell : (u i : ℕ) → u < transactions_most → head_cell row u i ≡ get_or row (transaction_cell u + i) 0
  unfolding head_cell
  head-cell u i few = rw (lt-ltb u transactions_most few)

  pub body-cell : (k i : ℕ) → k < tasks_in_all → body_cell row k i ≡ get_or row (task_cell k + i) 0
  unfolding body_cell
  body-cell k i few = rw (lt-ltb k tasks_in_all few)

  pub time-cell : (k m : ℕ) → k < tasks_in_all → m < modes_most → time_cell row k m ≡ get_or row (task_cell k + (times_cell + m)) 0
  unfolding time_cell
  time-cell k m few narrow = rw (lt-ltb m modes_most narrow) (body-cell k (times_cell + m) few)
