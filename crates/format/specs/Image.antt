-- The image of a table: its fields packed most significant bit first, with no gaps, and zero bits to the end of the byte.
use Rattle.std.specs.Prelude.{List, ◌++◌, ℕ, zero, suc, ◌+◌, ◌*◌, length, get_or}
use Rattle.bits.specs.Bits.{field_bits}
use Rattle.table.specs.Table.{Task, Transaction, Table, transactions, transaction, no_task}
use Rattle.table.specs.Limits.{edition_width, frame_width, transactions_width, period_width, modes_width, tasks_width, offset_width, jitter_width, blocking_width, deadline_width, priority_width, time_width}
use Rattle.table.specs.Lists.{list_of, joined}
use Rattle.format.specs.Places.{bytes_to}

unfoldable pub task_bits : Task → List ℕ
task_bits t =
    field_bits offset_width t.offset
    ++ field_bits jitter_width t.jitter
    ++ field_bits blocking_width t.blocking
    ++ field_bits deadline_width t.deadline
    ++ field_bits priority_width t.priority
    ++ joined (length t.times) (λ m. field_bits time_width (get_or t.times m 0))

unfoldable pub transaction_bits : Transaction → List ℕ
transaction_bits x =
    field_bits period_width x.period
    ++ field_bits modes_width x.modes
    ++ field_bits tasks_width (length x.tasks)
    ++ joined (length x.tasks) (λ j. task_bits (get_or x.tasks j no_task))

unfoldable pub table_bits : Table → List ℕ
table_bits tab =
    field_bits edition_width tab.edition
    ++ field_bits frame_width tab.frame
    ++ field_bits transactions_width (transactions tab)
    ++ joined (transactions tab) (λ u. transaction_bits (transaction tab u))

-- the number that the first w of some bits say
unfoldable pub number_of : (ℕ → ℕ) → ℕ → ℕ
number_of f zero = 0
number_of f (suc w) = 2 * number_of f w + f w

-- bits as bytes, eight to a byte, with zeros behind the last
unfoldable pub bytes_of : List ℕ → List ℕ
bytes_of l = list_of (bytes_to (length l)) (λ i. number_of (λ k. get_or l (8 * i + k) 0) 8)

unfoldable pub image_of : Table → List ℕ
image_of tab = bytes_of (table_bits tab)
