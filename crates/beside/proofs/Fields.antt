-- The fields of a row whose transactions have one task and one mode each, by their cells, and what a rival counts for.
use mathlib.Core.Path.{◌≡◌, sym, ap, ◌∙◌}
use lib.ListN.{get_or}
use mathlib.Core.List.{List}
use mathlib.Core.Bool.{Bool, true, false, not}
use lib.Dec.{T, leb, leb→le, nleb→lt}
use Prim.Native.Nat.{ℕ, ◌+◌, ◌≤◌, ◌<◌}
use native.Mathlib.Decide.{ℕ_discrete}
use native.Mathlib.Omega.{arith}
use Rattle.table.specs.Table.{Table, IsTask, transactions, jitter, blocking, priority, time}
use Rattle.table.specs.Number.{number}
use Rattle.row.specs.Row.{task_cell, jitter_cell, blocking_cell, priority_cell, times_cell, table_of}
use Rattle.row.proofs.Held.{held-jitter, held-blocking, held-priority, held-time}
use Rattle.analysis.specs.Choice.{when, unless}
use Rattle.analysis.specs.Rival.{urgent?}
use Rattle.analysis.proofs.Choice.{when-yes, when-no, unless-yes, unless-no}
use Rattle.jitter.proofs.Number.{number-single}
use Rattle.jitter.proofs.Alone.{is_task}
use Rattle.beside.specs.Lent.{SingleRow, Shows, IsRival}

module _ {row : List ℕ} (is : SingleRow row) {i : ℕ} (h : i < transactions (table_of row)) where
  itself : number (table_of row) i 0 ≡ i
  itself = number-single is.single h

  only : IsTask (table_of row) i 0
  only = is_task is.table.kept is.single h

  -- the cells of the task are those of its number
  cell-of : (n at : ℕ) → n ≡ get_or row (task_cell (number (table_of row) i 0) + at) 0 → get_or row (task_cell i + at) 0 ≡ n
  cell-of n at e = ap (λ (k : ℕ). get_or row (task_cell k + at) 0) (sym itself) ∙ sym e

  pub field-jitter : get_or row (task_cell i + jitter_cell) 0 ≡ jitter (table_of row) i 0
  field-jitter = cell-of _ jitter_cell (held-jitter row only)

  pub field-blocking : get_or row (task_cell i + blocking_cell) 0 ≡ blocking (table_of row) i 0
  field-blocking = cell-of _ blocking_cell (held-blocking row only)

  pub field-priority : get_or row (task_cell i + priority_cell) 0 ≡ priority (table_of row) i 0
  field-priority = cell-of _ priority_cell (held-priority row only)

  pub field-time : get_or row (task_cell i + times_cell) 0 ≡ time (table_of row) i 0 0
  field-time = cell-of _ times_cell (held-time row only {m = 0} (omega (arith, is.single.one_mode i h)))

-- what a comparison shows
pub shows-le : {A : Type 0} (m n : ℕ) → (m ≤ n → A) → (n < m → ¬ A) → Shows A (leb m n)
shows-le {A} m n holds fails = go (leb m n) (leb→le m n) (nleb→lt m n)
  where
    go : (b : Bool) → (T b → m ≤ n) → (T (not b) → n < m) → Shows A b
    go true l g = holds (l tt)
    go false l g = fails (g tt)

-- a rival counts, and no other task does
module _ (tab : Table) (u i x : ℕ) where
  pub rival-counts : IsRival tab u i → unless (ℕ_discrete i u) (when (urgent? tab u 0 i 0) x) ≡ x
  rival-counts r = unless-no (ℕ_discrete i u) _ r.other ∙ when-yes (urgent? tab u 0 i 0) x r.urgent

  pub other-counts-not : ¬ (IsRival tab u i) → unless (ℕ_discrete i u) (when (urgent? tab u 0 i 0) x) ≡ 0
  other-counts-not n =
      elim (ℕ_discrete i u) [
        | yes e ↦ unless-yes (ℕ_discrete i u) _ e
        | no d ↦ unless-no (ℕ_discrete i u) _ d ∙ when-no (urgent? tab u 0 i 0) x (λ g. n (record { other = d; urgent = g }))
      ]
