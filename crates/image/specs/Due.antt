-- What a task asks of its deadline, by a bit position that some field of the task holds.
use Rattle.std.specs.Prelude.{◌≡◌, List, ℕ, Option, Some, None}
use Rattle.table.specs.Table as of
use Rattle.table.specs.Keepable.{greatest_time}
use Rattle.table.specs.Fields.{TaskField}
use Rattle.table.specs.Fields.Field.{task}
use Rattle.format.specs.Said.{table_in}
use Rattle.places.specs.Held.{Holds}
use Rattle.image.specs.declared.due.Due.{Due}

-- d holds the offset, the greatest time and the deadline of the task of which some field holds bit p
pub record DueOf (image : List ℕ) (p : ℕ) (d : Due) : Type 0 where
  pub u : ℕ
  pub j : ℕ
  pub field : TaskField
  pub holds : Holds image (task u j field) p
  pub offset : d.offset ≡ of.offset (table_in image) u j
  pub time : d.time ≡ greatest_time (table_in image) u j
  pub deadline : d.deadline ≡ of.deadline (table_in image) u j

-- or that no field of a task holds it
abbrev pub DueAt : List ℕ → (p : ℕ) → Option Due → Type 0
DueAt image p (Some d) = DueOf image p d
DueAt image p None = (u j : ℕ) (f : TaskField) → ¬ Holds image (task u j f) p
