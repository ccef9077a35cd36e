-- The writer's findings, computed at small tables: each number that is too large for its field, before the field's rule; each
-- rule at the place that the field would have; and the room, after all of these.
use Rattle.std.specs.Prelude.{◌≡◌, refl, List, [], ◌∷◌, map, ℕ}
use Rattle.bits.specs.Bits.{field_bits}
use Rattle.refusals.specs.Answer.{accepted, refused}
use Rattle.refusals.specs.declared.Refusal.TheVariants.{EditionUnknown, FrameZero, TransactionCount, PeriodUnfit, ModeCount, TaskCount, DeadlineZero, NeverRuns, DeadlineShort, TooLarge, BufferShort}
use Rattle.table.specs.Table.{Task, Table}
use Rattle.table.specs.Lists.{list_of, joined}
use Rattle.table.specs.Sample.{S, task, transaction, table, plain, lone}
use Rattle.table.specs.Computing.{computing}
use Rattle.format.specs.Image.{task_bits, transaction_bits, table_bits, number_of, bytes_of, image_of}
use Rattle.format.specs.Write.{start_of, table_fault, write_fault}

-- the header
abbrev with : (edition frame count : ℕ) → Table
with edition frame count = record { edition = edition; frame = frame; transactions = list_of count (λ u. transaction 1 1 []) }

header :
    map (λ e. table_fault (with e 0 0)) (0 ∷ 2 ∷ 15 ∷ 16 ∷ 1 ∷ [])
    ∷ map (λ n. table_fault (with 1 n 0)) (16_777_216 ∷ 16_777_215 ∷ [])
    ∷ map (λ n. table_fault (with 1 1 n)) (0 ∷ 33 ∷ 63 ∷ 64 ∷ [])
    ∷ []
    ≡ (refused EditionUnknown 0 ∷ refused EditionUnknown 0 ∷ refused EditionUnknown 0 ∷ refused TooLarge 0 ∷ refused FrameZero 4 ∷ [])
    ∷ (refused TooLarge 4 ∷ refused TransactionCount 28 ∷ [])
    ∷ (refused TransactionCount 28 ∷ refused TaskCount 62 ∷ refused TaskCount 62 ∷ refused TooLarge 28 ∷ [])
    ∷ []
unfolding computing start_of table_fault
header = refl

-- one transaction
abbrev one : (T modes : ℕ) → List Task → Table
one T modes tasks = table 20 (transaction T modes tasks ∷ [])

heads :
    map (λ T. table_fault (one T 0 [])) (0 ∷ 3 ∷ 40 ∷ 16_777_216 ∷ 20 ∷ [])
    ∷ map (λ m. table_fault (one 20 m [])) (0 ∷ 9 ∷ 15 ∷ 16 ∷ 8 ∷ [])
    ∷ map (λ n. table_fault (one 20 1 (list_of n (λ j. plain 0 0 0 0)))) (0 ∷ 17 ∷ 31 ∷ 32 ∷ 16 ∷ [])
    ∷ []
    ≡ (refused PeriodUnfit 34 ∷ refused PeriodUnfit 34 ∷ refused PeriodUnfit 34 ∷ refused TooLarge 34 ∷ refused ModeCount 58 ∷ [])
    ∷ (refused ModeCount 58 ∷ refused ModeCount 58 ∷ refused ModeCount 58 ∷ refused TooLarge 58 ∷ refused TaskCount 62 ∷ [])
    ∷ (refused TaskCount 62 ∷ refused TaskCount 62 ∷ refused TaskCount 62 ∷ refused TooLarge 62 ∷ refused DeadlineZero 139 ∷ [])
    ∷ []
unfolding computing start_of table_fault
heads = refl

-- one task of two modes
tasks :
    map (λ t. table_fault (one 20 2 (t ∷ [])))
    (task 16_777_216 16_777_216 0 0 0 []
    ∷ task 0 16_777_216 16_777_216 0 0 []
    ∷ task 0 0 16_777_216 0 0 []
    ∷ task 0 0 0 0 256 []
    ∷ task 0 0 0 67_108_864 256 []
    ∷ task 0 0 0 1 256 []
    ∷ task 0 0 0 1 0 (0 ∷ 16_777_216 ∷ [])
    ∷ task 0 0 0 1 0 (0 ∷ 0 ∷ [])
    ∷ task 0 0 0 1 0 (0 ∷ 1 ∷ [])
    ∷ task 2 0 0 4 0 (0 ∷ 3 ∷ [])
    ∷ task 2 0 0 4 0 (3 ∷ 16_777_216 ∷ [])
    ∷ task 2 0 0 5 0 (0 ∷ 3 ∷ [])
    ∷ [])
    ≡ refused TooLarge 67
    ∷ refused TooLarge 91
    ∷ refused TooLarge 115
    ∷ refused DeadlineZero 139
    ∷ refused TooLarge 139
    ∷ refused TooLarge 165
    ∷ refused TooLarge 197
    ∷ refused NeverRuns 173
    ∷ accepted
    ∷ refused DeadlineShort 139
    ∷ refused TooLarge 197
    ∷ accepted
    ∷ []
unfolding computing start_of table_fault
tasks = refl

-- a second transaction, behind one of two tasks
second : table_fault (table 20 (transaction 20 1 (plain 0 2 9 10 ∷ plain 4 3 8 10 ∷ []) ∷ transaction 3 1 [] ∷ [])) ≡ refused PeriodUnfit 327
unfolding computing start_of table_fault
second = refl

-- S has 62 bytes, and a table of one task 25
room : map (write_fault S) (61 ∷ 62 ∷ []) ∷ map (λ D. write_fault (lone 10 (plain 0 3 5 D)) 24) (10 ∷ 0 ∷ []) ∷ [] ≡ (refused BufferShort 0 ∷ accepted ∷ []) ∷ (refused BufferShort 0 ∷ refused DeadlineZero 139 ∷ []) ∷ []
unfolding computing start_of table_fault write_fault image_of table_bits transaction_bits task_bits field_bits bytes_of number_of joined
room = refl
