-- The fields of a table by name, in image order: those of the header, of the head of a transaction (what stands before its
-- tasks) and of a task; of each its width, and the number that a table has there.
use Rattle.std.specs.Prelude.{◌≡◌, ℕ, ◌<◌, ◌^◌, length}
use Rattle.table.specs.Limits.{edition_width, frame_width, transactions_width, period_width, modes_width, tasks_width, offset_width, jitter_width, blocking_width, deadline_width, priority_width, time_width}
use Rattle.table.specs.Table.{Table, IsTask}
use Rattle.table.specs.Table as of

pub data HeaderField : Type 0 where
  edition frame count : HeaderField

pub data HeadField : Type 0 where
  period modes tasks : HeadField

pub data TaskField : Type 0 where
  offset jitter blocking deadline priority : TaskField
  time : (m : ℕ) → TaskField

-- a field and where it stands: in the header, in transaction u, in task j of transaction u
pub data Field : Type 0 where
  header : HeaderField → Field
  head : (u : ℕ) → HeadField → Field
  task : (u j : ℕ) → TaskField → Field

abbrev pub width_in_header : HeaderField → ℕ
width_in_header edition = edition_width
width_in_header frame = frame_width
width_in_header count = transactions_width

abbrev pub width_in_head : HeadField → ℕ
width_in_head period = period_width
width_in_head modes = modes_width
width_in_head tasks = tasks_width

abbrev pub width_in_task : TaskField → ℕ
width_in_task offset = offset_width
width_in_task jitter = jitter_width
width_in_task blocking = blocking_width
width_in_task deadline = deadline_width
width_in_task priority = priority_width
width_in_task (time m) = time_width

abbrev pub width : Field → ℕ
width (header f) = width_in_header f
width (head u f) = width_in_head f
width (task u j f) = width_in_task f

-- what a table has in a field
unfoldable pub number_in : Table → Field → ℕ
number_in tab (header edition) = tab.edition
number_in tab (header frame) = tab.frame
number_in tab (header count) = of.transactions tab
number_in tab (head u period) = of.period tab u
number_in tab (head u modes) = of.modes tab u
number_in tab (head u tasks) = of.tasks tab u
number_in tab (task u j offset) = of.offset tab u j
number_in tab (task u j jitter) = of.jitter tab u j
number_in tab (task u j blocking) = of.blocking tab u j
number_in tab (task u j deadline) = of.deadline tab u j
number_in tab (task u j priority) = of.priority tab u j
number_in tab (task u j (time m)) = of.time tab u m j

-- a task of that many modes has a time for each
abbrev pub IsTaskField : (modes : ℕ) → TaskField → Type 0
IsTaskField n offset = Unit
IsTaskField n jitter = Unit
IsTaskField n blocking = Unit
IsTaskField n deadline = Unit
IsTaskField n priority = Unit
IsTaskField n (time m) = m < n

-- a table has that field
abbrev pub IsField : Table → Field → Type 0
IsField tab (header f) = Unit
IsField tab (head u f) = u < of.transactions tab
IsField tab (task u j f) = IsTask tab u j × IsTaskField (of.modes tab u) f

-- every number fits its field
pub record Fits (tab : Table) : Type 0 where
  pub below : (f : Field) → IsField tab f → number_in tab f < 2 ^ width f

-- every task has one time for each mode of its transaction
pub record Timed (tab : Table) : Type 0 where
  pub times : (u j : ℕ) → IsTask tab u j → length (of.task tab u j).times ≡ of.modes tab u
