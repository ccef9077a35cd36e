-- What is asked of a table that is to be written: where each of its fields would stand in its image, the first fault of the
-- table, by the rules that the reader has, and last that the image has room.
use Rattle.std.specs.Prelude.{ℕ, zero, suc, ◌^◌, length, ltb, leb}
use Rattle.table.specs.Table.{Table, modes, tasks}
use Rattle.table.specs.Limits.{Limits, limits}
use Rattle.table.specs.Fields.{Field, width, number_in}
use Rattle.table.specs.Fields.Field.{header, head, task}
use Rattle.table.specs.Rules.{Look, Deadlines, table_rules}
use Rattle.table.specs.Rules.Deadlines.{keepable}
use Rattle.refusals.specs.declared.Refusal.TheVariants.{TooLarge, BufferShort}
use Rattle.refusals.specs.Answer.{Answer, ◌then◌, checked}
use Rattle.format.specs.Places.{first_at, place_in_header, place_in_head, place_in_task, task_at}
use Rattle.format.specs.Image.{image_of}

-- where transaction u of a table would start; behind the last one, where the padding would
unfoldable pub start_of : Table → ℕ → ℕ
start_of tab zero = first_at
start_of tab (suc u) = task_at (start_of tab u) (modes tab u) (tasks tab u)

-- the place that each field would have
abbrev pub place_of : Table → Field → ℕ
place_of tab (header f) = place_in_header f
place_of tab (head u f) = place_in_head (start_of tab u) f
place_of tab (task u j f) = place_in_task (task_at (start_of tab u) (modes tab u) j) f

-- a field's own finding is that its number is too large for it
abbrev pub table_look : Table → Look Field
table_look tab = record { finding = λ f. checked (ltb (number_in tab f) (2 ^ width f)) TooLarge (place_of tab f); place = place_of tab; number = number_in tab }

-- the first fault of a table under those limits, with those deadlines let in; and under the limits that there are, only deadlines that
-- can be kept let in
abbrev pub table_fault_under : Limits → Deadlines → Table → Answer
table_fault_under most deadlines tab = table_rules ◌then◌ most deadlines (table_look tab)

unfoldable pub table_fault : Table → Answer
table_fault tab = table_fault_under limits keepable tab

-- and of writing it into a buffer of so many bytes
unfoldable pub write_fault : Table → (room : ℕ) → Answer
write_fault tab room = table_fault tab then checked (leb (length (image_of tab)) room) BufferShort 0
