-- The field that holds a bit position, worked out. It says the same as `Held` and need not be believed.
use Rattle.std.specs.Prelude.{List, ℕ, zero, suc, ◌-◌, ◌/◌, ◌%◌, ltb, if◌then◌else◌}
use Rattle.table.specs.Limits.{time_width}
use Rattle.table.specs.Fields as table
use Rattle.table.specs.Fields.{HeaderField, HeadField, TaskField}
use Rattle.table.specs.Fields.HeaderField.{edition, frame, count}
use Rattle.table.specs.Fields.HeadField.{period, modes, tasks}
use Rattle.table.specs.Fields.TaskField.{offset, jitter, blocking, deadline, priority, time}
use Rattle.table.specs.Fields.Field.{header, head, task}
use Rattle.table.specs.Number.{number}
use Rattle.format.specs.Places.{frame_at, count_at, first_at, modes_at, tasks_at, head_width, jitter_at, blocking_at, deadline_at, priority_at, times_at, task_width, start}
use Rattle.format.specs.Said.{count_in, modes_in, table_in}
use Rattle.places.specs.declared.Field.{Field}
use Rattle.places.specs.declared.Field.TheVariants.{Behind}
use Rattle.places.specs.Held.{named}

-- the field that holds bit p of the header; that p bits behind the start of a transaction, of a task

abbrev pub header_field_at : ℕ → HeaderField
header_field_at p = if ltb p frame_at then edition else if ltb p count_at then frame else count

abbrev pub head_field_at : ℕ → HeadField
head_field_at p = if ltb p (modes_at 0) then period else if ltb p (tasks_at 0) then modes else tasks

abbrev pub task_field_at : ℕ → TaskField
task_field_at p =
    if ltb p (jitter_at 0) then offset
    else if ltb p (blocking_at 0) then jitter
    else if ltb p (deadline_at 0) then blocking
    else if ltb p (priority_at 0) then deadline
    else if ltb p (times_at 0) then priority
    else time ((p - times_at 0) / time_width)

-- the field p bits behind the start of transaction u, of m modes
unfoldable pub part_at : (u m p : ℕ) → table.Field
part_at u m p =
    if ltb p head_width
    then head u (head_field_at p)
    else task u ((p - head_width) / task_width m) (task_field_at ((p - head_width) % task_width m))

-- the last of the first n transactions that starts at p or before
unfoldable pub owner_of : List ℕ → (n p : ℕ) → ℕ
owner_of image zero p = 0
owner_of image (suc n) p = if ltb p (start image n) then owner_of image n p else n

-- bit p of transaction u
abbrev pub part_in : List ℕ → (u p : ℕ) → table.Field
part_in image u p = part_at u (modes_in image (start image u)) (p - start image u)

-- the field that holds bit p, where that does not lie behind the last one
unfoldable pub holder_at : List ℕ → (p : ℕ) → table.Field
holder_at image p = if ltb p first_at then header (header_field_at p) else part_in image (owner_of image (count_in image) p) p

-- what is told of bit p
unfoldable pub field_at : List ℕ → (p : ℕ) → Field
field_at image p = if ltb p (start image (count_in image)) then named (number (table_in image)) (holder_at image p) else Behind
