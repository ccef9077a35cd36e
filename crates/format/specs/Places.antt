-- Where each field starts, as a bit position. All tasks of a transaction have the same size, so every place is in closed
-- form once the transaction's start is known; where a field is cut off or faulty, what lies behind it does not show.
use Rattle.std.specs.Prelude.{List, ℕ, zero, suc, ◌+◌, ◌*◌, ◌/◌}
use Rattle.bits.specs.Bits.{value_at}
use Rattle.table.specs.Limits.{edition_width, frame_width, transactions_width, period_width, modes_width, tasks_width, offset_width, jitter_width, blocking_width, deadline_width, priority_width, time_width}
use Rattle.table.specs.Fields.{HeaderField, HeadField, TaskField}
use Rattle.table.specs.Fields.HeaderField.{edition, frame, count}
use Rattle.table.specs.Fields.HeadField.{period, modes, tasks}
use Rattle.table.specs.Fields.TaskField.{offset, jitter, blocking, deadline, priority, time}

-- the header: edition, major frame, transaction count; then the first transaction

abbrev pub edition_at : ℕ
edition_at = 0

abbrev pub frame_at : ℕ
frame_at = edition_width

abbrev pub count_at : ℕ
count_at = frame_at + frame_width

abbrev pub first_at : ℕ
first_at = count_at + transactions_width

-- a transaction that starts at p: period, mode count, task count, then its tasks

abbrev pub modes_at : ℕ → ℕ
modes_at p = p + period_width

abbrev pub tasks_at : ℕ → ℕ
tasks_at p = p + (period_width + modes_width)

abbrev pub head_width : ℕ
head_width = period_width + modes_width + tasks_width

-- a task that starts at q: offset, jitter, blocking, deadline, priority, then a time for each mode

abbrev pub jitter_at : ℕ → ℕ
jitter_at q = q + offset_width

abbrev pub blocking_at : ℕ → ℕ
blocking_at q = q + (offset_width + jitter_width)

abbrev pub deadline_at : ℕ → ℕ
deadline_at q = q + (offset_width + jitter_width + blocking_width)

abbrev pub priority_at : ℕ → ℕ
priority_at q = q + (offset_width + jitter_width + blocking_width + deadline_width)

abbrev pub times_at : ℕ → ℕ
times_at q = q + (offset_width + jitter_width + blocking_width + deadline_width + priority_width)

abbrev pub time_at : ℕ → ℕ → ℕ
time_at q m = times_at q + m * time_width

-- the same by field: in the header, in a transaction that starts at p, in a task that starts at q

abbrev pub place_in_header : HeaderField → ℕ
place_in_header edition = edition_at
place_in_header frame = frame_at
place_in_header count = count_at

abbrev pub place_in_head : (p : ℕ) → HeadField → ℕ
place_in_head p period = p
place_in_head p modes = modes_at p
place_in_head p tasks = tasks_at p

abbrev pub place_in_task : (q : ℕ) → TaskField → ℕ
place_in_task q offset = q
place_in_task q jitter = jitter_at q
place_in_task q blocking = blocking_at q
place_in_task q deadline = deadline_at q
place_in_task q priority = priority_at q
place_in_task q (time m) = time_at q m

-- the bits of a task that has a time for each of m modes
abbrev pub task_width : ℕ → ℕ
task_width m = offset_width + jitter_width + blocking_width + deadline_width + priority_width + m * time_width

-- task j of a transaction of m modes that starts at p
abbrev pub task_at : ℕ → ℕ → ℕ → ℕ
task_at p m j = p + head_width + j * task_width m

-- where the transaction that starts at p ends
unfoldable pub past : List ℕ → ℕ → ℕ
past image p = task_at p (value_at image (modes_at p) modes_width) (value_at image (tasks_at p) tasks_width)

-- where transaction u starts; behind the last one, where the padding does
unfoldable pub start : List ℕ → ℕ → ℕ
start image zero = first_at
start image (suc u) = past image (start image u)

-- the bytes that p bits take
abbrev pub bytes_to : ℕ → ℕ
bytes_to p = (p + 7) / 8

-- the longest image, in bytes
abbrev pub longest_image : ℕ
longest_image = 5_033
