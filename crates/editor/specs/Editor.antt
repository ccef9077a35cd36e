-- What an editor is told: the image's answer with the table in the lent cells, and the writer's answer with the image in the lent
-- buffer, each answer as number × 2^32 + place.
use Rattle.std.specs.Prelude.{◌≡◌, List, ℕ}
use Rattle.refusals.specs.Answer.{answer_number, answer_place}
use Rattle.format.specs.Fault.{image_fault}
use Rattle.image.specs.Read.{row_over}
use Rattle.table.specs.Table.{Table}
use Rattle.writer.specs.Write.{Writing, writing_number, writing_place, Writes}
use Rattle.told.specs.Told.{paired}

-- Takes image before after r: the cells held `before` and hold `after`, and r is the number
pub record Takes (image before after : List ℕ) (r : ℕ) : Type 0 where
  pub number : r ≡ paired (answer_number (image_fault image)) (answer_place (image_fault image))
  pub cells : after ≡ row_over (image_fault image) image before

-- Gives tab before after r: the buffer held `before` and holds `after`, as writing that table leaves it, and r is the number
pub record Gives (tab : Table) (before after : List ℕ) (r : ℕ) : Type 0 where
  pub writing : Writing
  pub writes : Writes tab before after writing
  pub number : r ≡ paired (writing_number writing) (writing_place writing)
