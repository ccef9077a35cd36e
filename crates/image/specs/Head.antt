-- What the code's small structs hold: the fields before the tasks of a transaction, and those before the times of a task.
use Rattle.std.specs.Prelude.{List, ℕ}
use Rattle.bits.specs.Bits.{value_at}
use Rattle.table.specs.Limits.{offset_width, jitter_width, blocking_width, priority_width}
use Rattle.row.specs.declared.kinds.Transaction.{Transaction}
use Rattle.row.specs.declared.kinds.Task.{Task}
use Rattle.format.specs.Places.{jitter_at, blocking_at, priority_at}
use Rattle.format.specs.Said.{period_in, modes_in, tasks_in, deadline_in}

abbrev pub head_at : List ℕ → ℕ → Transaction
head_at image p = record { period = period_in image p; modes = modes_in image p; tasks = tasks_in image p }

abbrev pub body_at : List ℕ → ℕ → Task
body_at image q =
    record {
      offset = value_at image q offset_width;
      jitter = value_at image (jitter_at q) jitter_width;
      blocking = value_at image (blocking_at q) blocking_width;
      deadline = deadline_in image q;
      priority = value_at image (priority_at q) priority_width;
    }
