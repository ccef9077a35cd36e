-- Which field a refusal is about.
use Rattle.std.specs.Prelude.{List, ℕ, ◌*◌}
use Rattle.refusals.specs.declared.Refusal.{Refusal}
use Rattle.refusals.specs.declared.Refusal.TheVariants.{EndsInside, EditionUnknown, FrameZero, TransactionCount, PeriodUnfit, ModeCount, TaskCount, DeadlineZero, NeverRuns, PaddingSet, BytesFollow, DeadlineShort}
use Rattle.table.specs.Table.{Table}
use Rattle.table.specs.Keepable.{IsKeepable}
use Rattle.table.specs.Fields as table
use Rattle.table.specs.Fields.{HeaderField, HeadField, TaskField, IsField}
use Rattle.table.specs.Fields.Field.{header, head, task}
use Rattle.table.specs.Number.{number}
use Rattle.format.specs.Places.{start, bytes_to}
use Rattle.format.specs.Said.{count_in, table_in}
use Rattle.format.specs.Fault.{place_in}
use Rattle.places.specs.declared.Field.{Field}
use Rattle.places.specs.declared.Field.TheVariants.{Behind}
use Rattle.places.specs.Held.{named}

-- 1 to 9, and 14: the image may end inside any field; a task that never runs is refused at its first time; and of a deadline that is too
-- short the numbers of its task are told beside it, so it is said what is wrong with these
pub data About (tab : Table) : Refusal → table.Field → Type 0 where
  ends : (f : table.Field) → About tab EndsInside f
  edition : About tab EditionUnknown (header HeaderField.edition)
  frame : About tab FrameZero (header HeaderField.frame)
  count : About tab TransactionCount (header HeaderField.count)
  period : (u : ℕ) → About tab PeriodUnfit (head u HeadField.period)
  modes : (u : ℕ) → About tab ModeCount (head u HeadField.modes)
  tasks : (u : ℕ) → About tab TaskCount (head u HeadField.tasks)
  deadline : (u j : ℕ) → About tab DeadlineZero (task u j TaskField.deadline)
  times : (u j : ℕ) → About tab NeverRuns (task u j (TaskField.time 0))
  short : (u j : ℕ) → ¬ IsKeepable tab u j → About tab DeadlineShort (task u j TaskField.deadline)

-- Points image refusal p r: the refusal at p is about r, a field of the image that starts there; 10 and 11 are about what lies
-- behind the last field
pub data Points (image : List ℕ) : Refusal → (p : ℕ) → Field → Type 0 where
  starts : {refusal : Refusal} (f : table.Field) → IsField (table_in image) f → About (table_in image) refusal f → Points image refusal (place_in image f) (named (number (table_in image)) f)
  padding : Points image PaddingSet (start image (count_in image)) Behind
  follow : Points image BytesFollow (8 * bytes_to (start image (count_in image))) Behind
