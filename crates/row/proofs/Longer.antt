-- Rows that agree in the cells of a row hold the same table, if it is a kept one: so a longer row that begins with the row
-- of a kept table holds that table.
use mathlib.Core.Path.{◌≡◌, sym, ap, ◌∙◌}
use mathlib.Core.List.{List}
use Prim.Native.Nat.{ℕ, ◌+◌, ◌<◌}
use native.Mathlib.Omega.{arith}
use lib.ListN.{get_or, take}
use lib.Seq.{get_or-take, ext_get_or}
use Rattle.table.specs.Table.{transactions, modes, tasks, IsTask}
use Rattle.table.specs.Number.{before, number}
use Rattle.table.specs.Kept.{Kept}
use Rattle.table.specs.Lists.{list_of}
use Rattle.table.proofs.Sum.{sum-ext}
use Rattle.table.proofs.Lists.{length-list_of, get_or-list_of}
use Rattle.table.proofs.Number.{number_lt}
use Rattle.row.specs.Row.{row_cells, edition_cell, frame_cell, count_cell, transaction_cells, transaction_cell, period_cell, modes_cell, has_cell, task_cell, offset_cell, jitter_cell, blocking_cell, deadline_cell, priority_cell, times_cell, row_of, task_of, tasks_before, transaction_of, table_of, RowOfTable}
use Rattle.row.proofs.Held.{held-transactions, held-modes, held-tasks, held-before}

list_of-ext {ℓ} : {A : Type ℓ} (n : ℕ) {f g : ℕ → A} → A → ((k : ℕ) → k < n → f k ≡ g k) → list_of n f ≡ list_of n g
list_of-ext n {f} {g} d each =
    ext_get_or d (list_of n f) (list_of n g) (length-list_of n f ∙ sym (length-list_of n g))
    (λ k h.
    let below : k < n = rw (length-list_of n f) at h in
    get_or-list_of n f k d below ∙ each k below ∙ sym (get_or-list_of n g k d below))

module _ (old row : List ℕ) (kept : Kept (table_of old)) (same : take row_cells row ≡ take row_cells old) where
  cell : (n : ℕ) → n < row_cells → get_or row n 0 ≡ get_or old n 0
  cell n l = sym (get_or-take row_cells row n 0 l) ∙ ap (λ (r : List ℕ). get_or r n 0) same ∙ get_or-take row_cells old n 0 l

  module _ {u : ℕ} (h : u < transactions (table_of old)) where
    head : (i : ℕ) → i < transaction_cells → get_or row (transaction_cell u + i) 0 ≡ get_or old (transaction_cell u + i) 0
    head i l = cell (transaction_cell u + i) (omega (arith, kept.few_transactions))

    same-task : {j : ℕ} → j < tasks (table_of old) u → task_of row (modes (table_of old) u) (number (table_of old) u j) ≡ task_of old (modes (table_of old) u) (number (table_of old) u j)
    unfolding task_of modes
    same-task {j} l =
        let is : IsTask (table_of old) u j = record { owner = h; place = l } in
        let k = number (table_of old) u j in
        let few = number_lt (table_of old) is in
        let body : (i : ℕ) → i < times_cell → get_or row (task_cell k + i) 0 ≡ get_or old (task_cell k + i) 0 = λ i below. cell (task_cell k + i) (omega (arith, kept.few_tasks)) in
        let times : list_of (modes (table_of old) u) (λ m. get_or row (task_cell k + (times_cell + m)) 0) ≡ list_of (modes (table_of old) u) (λ m. get_or old (task_cell k + (times_cell + m)) 0) =
        list_of-ext (modes (table_of old) u) 0 (λ m below. cell (task_cell k + (times_cell + m)) (omega (arith, kept.few_tasks, (kept.each u h).few_modes))) in
        λ i.
        record {
          offset = body offset_cell (omega arith) i;
          jitter = body jitter_cell (omega arith) i;
          blocking = body blocking_cell (omega arith) i;
          deadline = body deadline_cell (omega arith) i;
          priority = body priority_cell (omega arith) i;
          times = times i;
        }

    same-before : tasks_before row u ≡ before (table_of old) u
    unfolding tasks_before before
    same-before =
        sum-ext u (λ v below. cell (transaction_cell v + has_cell) (omega (arith, kept.few_transactions)) ∙ sym (held-tasks old (omega arith)))

    same-transaction : transaction_of row u ≡ transaction_of old u
    unfolding transaction_of number
    same-transaction =
        let listed :
        list_of (tasks (table_of old) u) (λ j. task_of row (modes (table_of old) u) (before (table_of old) u + j))
        ≡ list_of (tasks (table_of old) u) (λ j. task_of old (modes (table_of old) u) (before (table_of old) u + j)) =
        list_of-ext (tasks (table_of old) u) (task_of old 0 0) (λ j below. same-task below) in
        let count : get_or row (transaction_cell u + has_cell) 0 ≡ tasks (table_of old) u = head has_cell (omega arith) ∙ sym (held-tasks old h) in
        let modes : get_or row (transaction_cell u + modes_cell) 0 ≡ modes (table_of old) u = head modes_cell (omega arith) ∙ sym (held-modes old h) in
        let all :
        list_of (get_or row (transaction_cell u + has_cell) 0) (λ j. task_of row (get_or row (transaction_cell u + modes_cell) 0) (tasks_before row u + j))
        ≡ list_of (get_or old (transaction_cell u + has_cell) 0) (λ j. task_of old (get_or old (transaction_cell u + modes_cell) 0) (tasks_before old u + j)) =
        rw (count, modes, same-before, ← (held-tasks old h), ← (held-modes old h), ← (held-before old u (omega arith))) listed in
        λ i.
        record { period = head period_cell (omega arith) i; modes = head modes_cell (omega arith) i; tasks = all i }

  pub same-held : table_of row ≡ table_of old
  unfolding table_of
  same-held =
      let count = held-transactions old in
      let all : list_of (get_or row count_cell 0) (transaction_of row) ≡ list_of (get_or old count_cell 0) (transaction_of old) =
      rw (cell count_cell (omega arith))
      (list_of-ext (get_or old count_cell 0) (transaction_of old 0) (λ u below. same-transaction (rw count below))) in
      λ i.
      record { edition = cell edition_cell (omega arith) i; frame = cell frame_cell (omega arith) i; transactions = all i }

-- and so it is one that begins with the row of a table
pub longer : {old row : List ℕ} → RowOfTable old → take row_cells row ≡ take row_cells old → RowOfTable row
longer {old} {row} x same =
    let e = same-held old row x.kept same in
    record { kept = rw e x.kept; is_row = ap row_of e ∙ x.is_row ∙ sym same }
