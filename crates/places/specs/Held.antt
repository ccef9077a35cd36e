-- Which field of an image holds a bit position. An image has the fields of the table that it says, whether or not it is
-- accepted; behind the last one lies the padding, and what follows.
use Rattle.std.specs.Prelude.{List, ℕ, ◌+◌, ◌≤◌, ◌<◌}
use Rattle.table.specs.Fields as table
use Rattle.table.specs.Fields.{HeaderField, HeadField, TaskField, IsField, width}
use Rattle.table.specs.Fields.HeaderField.{edition, frame, count}
use Rattle.table.specs.Fields.HeadField.{period, modes, tasks}
use Rattle.table.specs.Fields.TaskField.{offset, jitter, blocking, deadline, priority, time}
use Rattle.table.specs.Fields.Field.{header, head, task}
use Rattle.table.specs.Number.{number}
use Rattle.format.specs.Places.{start}
use Rattle.format.specs.Said.{count_in, table_in}
use Rattle.format.specs.Fault.{place_in}
use Rattle.places.specs.declared.Field.{Field}
use Rattle.places.specs.declared.Field.TheVariants.{Edition, Frame, Transactions, Period, Modes, Tasks, Offset, Jitter, Blocking, Deadline, Priority, Time, Behind}

-- bit p is one of the w bits from a
pub record Among (a w p : ℕ) : Type 0 where
  pub from : a ≤ p
  pub below : p < a + w

-- bit p is one of the bits of that field, which the image has
pub record Holds (image : List ℕ) (f : table.Field) (p : ℕ) : Type 0 where
  pub has : IsField (table_in image) f
  pub bit : Among (place_in image f) (width f) p

-- what a field is called: in the header; in transaction u; in the task with number k, a task of transaction u

abbrev pub in_header : HeaderField → Field
in_header edition = Edition
in_header frame = Frame
in_header count = Transactions

abbrev pub in_head : (u : ℕ) → HeadField → Field
in_head u period = Period u
in_head u modes = Modes u
in_head u tasks = Tasks u

abbrev pub in_task : (u k : ℕ) → TaskField → Field
in_task u k offset = Offset u k
in_task u k jitter = Jitter u k
in_task u k blocking = Blocking u k
in_task u k deadline = Deadline u k
in_task u k priority = Priority u k
in_task u k (time m) = Time u k m

-- under that numbering of the tasks
abbrev pub named : (numbering : ℕ → ℕ → ℕ) → table.Field → Field
named numbering (header f) = in_header f
named numbering (head u f) = in_head u f
named numbering (task u j f) = in_task u (numbering u j) f

-- Held image p r: r says which field of the image holds bit p
pub data Held (image : List ℕ) (p : ℕ) : Field → Type 0 where
  within : (f : table.Field) → Holds image f p → Held image p (named (number (table_in image)) f)
  behind : start image (count_in image) ≤ p → Held image p Behind
