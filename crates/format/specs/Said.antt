-- The table that the fields of an image say, whether or not the image is accepted.
use Rattle.std.specs.Prelude.{List, ℕ}
use Rattle.bits.specs.Bits.{value_at}
use Rattle.table.specs.Sum.{sum}
use Rattle.table.specs.Table.{Task, Transaction, Table}
use Rattle.table.specs.Limits.{edition_width, frame_width, transactions_width, period_width, modes_width, tasks_width, offset_width, jitter_width, blocking_width, deadline_width, priority_width, time_width}
use Rattle.table.specs.Lists.{list_of}
use Rattle.format.specs.Places.{edition_at, frame_at, count_at, modes_at, tasks_at, jitter_at, blocking_at, deadline_at, priority_at, time_at, task_at, start}

abbrev pub edition_in : List ℕ → ℕ
edition_in image = value_at image edition_at edition_width

abbrev pub frame_in : List ℕ → ℕ
frame_in image = value_at image frame_at frame_width

abbrev pub count_in : List ℕ → ℕ
count_in image = value_at image count_at transactions_width

-- of the transaction that starts at p

abbrev pub period_in : List ℕ → ℕ → ℕ
period_in image p = value_at image p period_width

abbrev pub modes_in : List ℕ → ℕ → ℕ
modes_in image p = value_at image (modes_at p) modes_width

abbrev pub tasks_in : List ℕ → ℕ → ℕ
tasks_in image p = value_at image (tasks_at p) tasks_width

-- of the task that starts at q

abbrev pub offset_in : List ℕ → ℕ → ℕ
offset_in image q = value_at image q offset_width

abbrev pub deadline_in : List ℕ → ℕ → ℕ
deadline_in image q = value_at image (deadline_at q) deadline_width

abbrev pub time_in : List ℕ → ℕ → ℕ → ℕ
time_in image q m = value_at image (time_at q m) time_width

-- the task of m modes that starts at q
unfoldable pub task_in : List ℕ → ℕ → ℕ → Task
task_in image m q =
    record {
      offset = offset_in image q;
      jitter = value_at image (jitter_at q) jitter_width;
      blocking = value_at image (blocking_at q) blocking_width;
      deadline = deadline_in image q;
      priority = value_at image (priority_at q) priority_width;
      times = list_of m (time_in image q);
    }

-- the transaction that starts at p
unfoldable pub transaction_in : List ℕ → ℕ → Transaction
transaction_in image p =
    record {
      period = period_in image p;
      modes = modes_in image p;
      tasks = list_of (tasks_in image p) (λ j. task_in image (modes_in image p) (task_at p (modes_in image p) j));
    }

unfoldable pub table_in : List ℕ → Table
table_in image =
    record {
      edition = edition_in image;
      frame = frame_in image;
      transactions = list_of (count_in image) (λ u. transaction_in image (start image u));
    }

-- the tasks of the transactions before u
unfoldable pub tasks_before : List ℕ → ℕ → ℕ
tasks_before image u = sum u (λ v. tasks_in image (start image v))
