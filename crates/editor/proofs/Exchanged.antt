-- What an editor can rely on, call after call: the cells that reading filled hold the image's table, so writing them gives the image's
-- bytes; and reading what was written fills the cells with the row of the table that was written.
use mathlib.Core.Path.{◌≡◌, ap, ◌∙◌}
use mathlib.Core.List.{List, ◌++◌}
use Prim.Native.Nat.{ℕ, ◌≤◌}
use lib.ListN.{length, take, drop}
use Rattle.format.specs.Said.{table_in}
use Rattle.format.specs.Fault.{IsAccepted}
use Rattle.format.proofs.Kept.{kept}
use Rattle.format.proofs.Round.{AreBytes}
use Rattle.row.specs.Row.{row_of, table_of}
use Rattle.row.proofs.Rows.{row-holds}
use Rattle.round.proofs.Row.{row-timed}
use Rattle.writer.specs.Write.{Writing, written, Writes}
use Rattle.writer.proofs.Returned.{written_read, read-written}
use Rattle.editor.specs.Editor.{Takes}

module _ {image cells filled : List ℕ} {r : ℕ} (ok : IsAccepted image) (taken : Takes image cells filled r) where
  pub row-filled : filled ≡ row_of (table_in image)
  row-filled = rw ok at taken.cells

  -- the cells hold the image's table
  pub table_filled : table_of filled ≡ table_in image
  table_filled = ap table_of row-filled ∙ row-holds (table_in image) (kept image ok)

  -- and writing them gives the image's bytes
  pub same_bytes :
      {before after : List ℕ} {w : Writing}
      → AreBytes image
      → Writes (table_of filled) before after w
      → length image ≤ length before
      → (w ≡ written (length image)) × (after ≡ image ++ drop (length image) before)
  same_bytes bytes x room = read-written image ok bytes (rw table_filled at x) room

-- reading what was written: accepted, and the cells are the row of the table that was written
pub same_row :
    (row : List ℕ) {cells filled before after : List ℕ} {n r : ℕ}
    → Writes (table_of row) before after (written n)
    → Takes (take n after) cells filled r
    → filled ≡ row_of (table_of row)
same_row row x taken =
    let back = written_read x (row-timed row) in
    row-filled back.0 taken ∙ ap row_of back.1
