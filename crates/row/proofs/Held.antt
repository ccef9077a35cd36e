-- The fields of the table that any row holds, by the row's cells.
use mathlib.Core.Path.{◌≡◌, refl, ap, ◌∙◌}
use mathlib.Core.List.{List}
use Prim.Native.Nat.{ℕ, ◌+◌, ◌≤◌, ◌<◌}
use native.Mathlib.Omega.{arith}
use lib.ListN.{get_or}
use Rattle.table.specs.Table.{transactions, transaction, period, modes, tasks, task, no_task, offset, jitter, blocking, deadline, priority, time, IsTask}
use Rattle.table.specs.Number.{before, number}
use Rattle.table.proofs.Sum.{sum-ext}
use Rattle.table.proofs.Lists.{length-list_of, get_or-list_of}
use Rattle.row.specs.Row.{frame_cell, count_cell, transaction_cell, period_cell, modes_cell, has_cell, task_cell, offset_cell, jitter_cell, blocking_cell, deadline_cell, priority_cell, times_cell, task_of, tasks_before, transaction_of, table_of}

module _ (row : List ℕ) where
  pub held-frame : (table_of row).frame ≡ get_or row frame_cell 0
  unfolding table_of
  held-frame = refl

  pub held-transactions : transactions (table_of row) ≡ get_or row count_cell 0
  unfolding transactions table_of
  held-transactions = length-list_of (get_or row count_cell 0) (transaction_of row)

  -- ---- transaction u

  module _ {u : ℕ} (h : u < transactions (table_of row)) where
    pub transaction-there : transaction (table_of row) u ≡ transaction_of row u
    unfolding transaction table_of
    transaction-there = get_or-list_of (get_or row count_cell 0) (transaction_of row) u _ (rw held-transactions at h)

    pub held-period : period (table_of row) u ≡ get_or row (transaction_cell u + period_cell) 0
    unfolding period transaction_of
    held-period = ap (λ x. x.period) transaction-there

    pub held-modes : modes (table_of row) u ≡ get_or row (transaction_cell u + modes_cell) 0
    unfolding modes transaction_of
    held-modes = ap (λ x. x.modes) transaction-there

    pub held-tasks : tasks (table_of row) u ≡ get_or row (transaction_cell u + has_cell) 0
    unfolding tasks transaction_of
    held-tasks = rw transaction-there (length-list_of (get_or row (transaction_cell u + has_cell) 0) _)

  pub held-before : (u : ℕ) → u ≤ transactions (table_of row) → before (table_of row) u ≡ tasks_before row u
  unfolding before tasks_before
  held-before u h = sum-ext u (λ v below. held-tasks (omega arith))

  -- ---- task j of transaction u

  module _ {u j : ℕ} (t : IsTask (table_of row) u j) where
    pub task-there : task (table_of row) u j ≡ task_of row (modes (table_of row) u) (number (table_of row) u j)
    unfolding task transaction_of number
    task-there =
        let within : j < get_or row (transaction_cell u + has_cell) 0 = rw (held-tasks t.owner) at t.place in
        rw (transaction-there t.owner, held-modes t.owner, held-before u (omega (arith, t.owner)))
        (get_or-list_of (get_or row (transaction_cell u + has_cell) 0)
        (λ i. task_of row (get_or row (transaction_cell u + modes_cell) 0) (tasks_before row u + i)) j no_task within)

    pub held-offset : offset (table_of row) u j ≡ get_or row (task_cell (number (table_of row) u j) + offset_cell) 0
    unfolding offset task_of
    held-offset = ap (λ x. x.offset) task-there

    pub held-jitter : jitter (table_of row) u j ≡ get_or row (task_cell (number (table_of row) u j) + jitter_cell) 0
    unfolding jitter task_of
    held-jitter = ap (λ x. x.jitter) task-there

    pub held-blocking : blocking (table_of row) u j ≡ get_or row (task_cell (number (table_of row) u j) + blocking_cell) 0
    unfolding blocking task_of
    held-blocking = ap (λ x. x.blocking) task-there

    pub held-deadline : deadline (table_of row) u j ≡ get_or row (task_cell (number (table_of row) u j) + deadline_cell) 0
    unfolding deadline task_of
    held-deadline = ap (λ x. x.deadline) task-there

    pub held-priority : priority (table_of row) u j ≡ get_or row (task_cell (number (table_of row) u j) + priority_cell) 0
    unfolding priority task_of
    held-priority = ap (λ x. x.priority) task-there

    pub held-time :
        {m : ℕ}
        → m < modes (table_of row) u
        → time (table_of row) u m j ≡ get_or row (task_cell (number (table_of row) u j) + (times_cell + m)) 0
    unfolding time task_of
    held-time {m} h =
        ap (λ x. get_or x.times m 0) task-there
        ∙ get_or-list_of (modes (table_of row) u) (λ i. get_or row (task_cell (number (table_of row) u j) + (times_cell + i)) 0) m 0 h
