-- What writing gives: the answer, and what the lent buffer then holds.
use Rattle.std.specs.Prelude.{◌≡◌, List, ◌++◌, ℕ, length, drop, Result, Ok, Err}
use Rattle.table.specs.Table.{Table}
use Rattle.refusals.specs.declared.Fault.{Fault}
use Rattle.refusals.specs.Answer.{Answer, number_of, place_of}
use Rattle.format.specs.Image.{image_of}
use Rattle.format.specs.Write.{write_fault}
use Rattle.writer.specs.declared.Written.{Written}

-- an image of so many bytes, or a refusal
abbrev pub Writing : Type 0
Writing = Result Written Fault

abbrev pub written : ℕ → Writing
written bytes = Ok (record { bytes = bytes })

-- the number and the place of each answer; where the table is written, 0 and the image's length

abbrev pub writing_number : Writing → ℕ
writing_number r = number_of r

abbrev pub writing_place : Writing → ℕ
writing_place r = place_of (λ (w : Written). w.bytes) r

-- with no finding the image is written; its bytes come first in the buffer, and those beyond it stay

abbrev pub answered : Answer → (image : List ℕ) → Writing
answered (Ok x) image = written (length image)
answered (Err f) image = Err f

abbrev pub holding : Answer → (image before : List ℕ) → List ℕ
holding (Ok x) image before = image ++ drop (length image) before
holding (Err f) image before = before

-- Writes tab before after r: that table was to be written into a buffer that held `before`; it holds `after`, and r is the answer
pub record Writes (tab : Table) (before after : List ℕ) (r : Writing) : Type 0 where
  pub answer : r ≡ answered (write_fault tab (length before)) (image_of tab)
  pub buffer : after ≡ holding (write_fault tab (length before)) (image_of tab) before
