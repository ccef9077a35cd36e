-- What reading gives: the answer, and the row of the table; on a refusal the empty row.
use Rattle.std.specs.Prelude.{Ok, Err}
use Rattle.std.specs.Prelude.{List, ℕ, length, leb}
use Rattle.refusals.specs.declared.Refusal.TheVariants.{NoRoom}
use Rattle.refusals.specs.Answer.{Answer, ◌then◌, checked}
use Rattle.row.specs.Row.{row_cells, row_of, empty_row}
use Rattle.format.specs.Said.{table_in}
use Rattle.format.specs.Fault.{image_fault}
use Rattle.image.specs.Fill.{filled_over}

abbrev pub row_for : Answer → List ℕ → List ℕ
row_for (Ok x) image = row_of (table_in image)
row_for (Err f) image = empty_row

-- what a lent array then holds: the row; on a refusal every cell stays as it was
abbrev pub row_over : Answer → (image before : List ℕ) → List ℕ
row_over (Ok x) image before = row_of (table_in image)
row_over (Err f) image before = before

-- the answer where the row is to stand in front of lent cells: that there are as many as a row has comes last
abbrev pub front_fault : (image before : List ℕ) → Answer
front_fault image before = image_fault image then checked (leb row_cells (length before)) NoRoom 0

-- what the cells then hold: those of the table's fields are stored, and the others stay
abbrev pub front_over : Answer → (image before : List ℕ) → List ℕ
front_over (Ok x) image before = filled_over image before
front_over (Err f) image before = before
