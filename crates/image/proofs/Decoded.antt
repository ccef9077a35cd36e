-- What reading promises to the layers above: the row of an accepted image holds the image's table, which keeps its
-- bounds; the row of a refused one holds no transaction. In front of cleared cells it is the same. (The computed cases are brought
-- in so that they are checked first.)
use mathlib.Core.Path.{◌≡◌, sym, ap, ◌∙◌}
use mathlib.Core.List.{List, ◌++◌}
use Prim.Native.Nat.{ℕ, ◌+◌, ◌-◌, ◌≤◌}
use native.Mathlib.Nat.{le_of_eq}
use native.Mathlib.Omega.{arith}
use lib.ListN.{length, take, replicate, length-replicate, replicate-append-replicate}
use lib.Seq.{take-append-le}
use borrow.Author.Tests.{le-leb}
use Rattle.refusals.specs.Answer.{checked}
use Rattle.refusals.proofs.Findings.{then-accepted}
use Rattle.table.specs.Table.{transactions}
use Rattle.table.specs.Lists.{padded}
use Rattle.row.specs.Row.{row_cells, row_of, empty_row, table_of, RowOfTable}
use Rattle.row.proofs.Held.{held-transactions}
use Rattle.row.proofs.Rows.{row-size, row-holds}
use Rattle.row.proofs.Fields.{row-of-table}
use Rattle.row.proofs.Longer.{same-held, longer}
use Rattle.format.specs.Fault.{image_fault, IsAccepted}
use Rattle.format.specs.Said.{table_in}
use Rattle.format.proofs.Kept.{kept}
use Rattle.image.specs.Cases
use Rattle.image.specs.Fill.{filled_over}
use Rattle.image.specs.Read.{front_fault}
use Rattle.image.proofs.Cells.{length-filled}
use Rattle.image.proofs.Filled.{filled, filled-front}

pub image-row : (image : List ℕ) → IsAccepted image → RowOfTable (row_of (table_in image))
image-row image ok = row-of-table (kept image ok)

pub image-row-holds : (image : List ℕ) → IsAccepted image → table_of (row_of (table_in image)) ≡ table_in image
image-row-holds image ok = row-holds (table_in image) (kept image ok)

pub empty-row-holds : transactions (table_of empty_row) ≡ 0
unfolding padded
empty-row-holds = held-transactions empty_row

-- ---- in front of cleared cells

-- where there are cells enough, the image's own fault is the answer
pub front-fault : (image before : List ℕ) → row_cells ≤ length before → front_fault image before ≡ image_fault image
unfolding checked
front-fault image before room = rw (le-leb row_cells (length before) room) (then-accepted (image_fault image))

-- n zeros, over which an image is read: they then begin with the row of its table
pub record InFront (image : List ℕ) (n : ℕ) : Type 0 where
  pub row : RowOfTable (filled_over image (replicate n 0))
  pub table : table_of (filled_over image (replicate n 0)) ≡ table_in image
  pub long : length (filled_over image (replicate n 0)) ≡ n

-- the row, and behind it the zeros that are left
row-and-zeros :
    (image : List ℕ) → IsAccepted image → (n : ℕ) → row_cells ≤ n
    → filled_over image (replicate n 0) ≡ row_of (table_in image) ++ replicate (n - row_cells) 0
unfolding padded
row-and-zeros image ok n room =
    let all : n ≡ row_cells + (n - row_cells) = omega arith in
    let zeros : replicate n 0 ≡ empty_row ++ replicate (n - row_cells) 0 =
    ap (λ (k : ℕ). replicate {A = ℕ} k 0) all ∙ sym (replicate-append-replicate row_cells (n - row_cells) 0) in
    ap (filled_over image) zeros
    ∙ filled-front image ok empty_row (replicate (n - row_cells) 0) (length-replicate {A = ℕ} row_cells 0)
    ∙ ap (λ (row : List ℕ). row ++ replicate (n - row_cells) 0) (filled image ok)

pub front-row : (image : List ℕ) → IsAccepted image → (n : ℕ) → row_cells ≤ n → InFront image n
front-row image ok n room =
    let row = row_of (table_in image) in
    let long : length (replicate {A = ℕ} n 0) ≡ n = length-replicate {A = ℕ} n 0 in
    let begins : take row_cells (filled_over image (replicate n 0)) ≡ take row_cells row =
    ap (take row_cells) (row-and-zeros image ok n room)
    ∙ take-append-le row_cells row (replicate (n - row_cells) 0) (le_of_eq (sym (row-size (table_in image) (kept image ok)))) in
    record {
      row = longer (image-row image ok) begins;
      table = same-held row (filled_over image (replicate n 0)) (image-row image ok).kept begins ∙ image-row-holds image ok;
      long = length-filled image (replicate n 0) ∙ long;
    }
