-- The rules computed at small tables that keep them, or break one: the condition of each, its place, and that a field is
-- checked as soon as it is there, before the next one is asked for.
use Rattle.std.specs.Prelude.{◌≡◌, refl, List, [], ◌∷◌, map, ℕ, suc, ◌+◌, ◌*◌, ltb}
use Rattle.refusals.specs.declared.Refusal.TheVariants.{EndsInside, EditionUnknown, FrameZero, TransactionCount, PeriodUnfit, ModeCount, TaskCount, DeadlineZero, NeverRuns, DeadlineShort}
use Rattle.refusals.specs.Answer.{Answer, accepted, refused, ◌then◌, checked}
use Rattle.table.specs.Table.{Table}
use Rattle.table.specs.Limits.{Limits, limits}
use Rattle.table.specs.Lists.{list_of}
use Rattle.table.specs.Fields.{HeaderField, HeadField, TaskField, Field, number_in}
use Rattle.table.specs.Rules.{Deadlines, table_rules}
use Rattle.table.specs.Rules.Deadlines.{any, keepable}
use Rattle.table.specs.Raised.{limits_before}
use Rattle.table.specs.Computing.{computing}
use Rattle.table.specs.Sample.{S, task, transaction, table}

-- places that show where a field stands: the transaction by the hundreds, the task by the tens

abbrev in_header : HeaderField → ℕ
in_header HeaderField.edition = 0
in_header HeaderField.frame = 1
in_header HeaderField.count = 2

abbrev in_head : HeadField → ℕ
in_head HeadField.period = 0
in_head HeadField.modes = 1
in_head HeadField.tasks = 2

abbrev in_task : TaskField → ℕ
in_task TaskField.offset = 0
in_task TaskField.jitter = 1
in_task TaskField.blocking = 2
in_task TaskField.deadline = 3
in_task TaskField.priority = 4
in_task (TaskField.time m) = 5 + m

abbrev place : Field → ℕ
place (Field.header f) = in_header f
place (Field.head u f) = 100 * suc u + in_head f
place (Field.task u j f) = 100 * suc u + 10 * suc j + in_task f

-- what is found where only the fields before that place are there
abbrev found_under : Limits → Deadlines → Table → (cut : ℕ) → Answer
found_under most deadlines tab cut =
    table_rules ◌then◌ most deadlines (record { finding = λ f. checked (ltb (place f) cut) EndsInside (place f); place = place; number = number_in tab })

abbrev found : Table → (cut : ℕ) → Answer
found = found_under limits keepable

-- S, whole and cut: its last field is the time of its last task
whole : map (found S) (216 ∷ 215 ∷ 124 ∷ 0 ∷ []) ≡ accepted ∷ refused EndsInside 215 ∷ refused EndsInside 124 ∷ refused EndsInside 0 ∷ []
unfolding computing
whole = refl

-- a table of one task in one transaction: its frame, its period, its deadline and its times
abbrev with : (frame T D : ℕ) → List ℕ → Table
with frame T D times = table frame (transaction T 2 (task 0 0 0 D 0 times ∷ []) ∷ [])

-- n transactions; a transaction of n modes; of n tasks
abbrev transactions_of : ℕ → Table
transactions_of n = table 20 (list_of n (λ u. transaction 20 1 []))

abbrev modes_of : ℕ → Table
modes_of n = table 20 (transaction 20 n [] ∷ [])

abbrev tasks_of : ℕ → Table
tasks_of n = table 20 (transaction 20 1 (list_of n (λ j. task 0 0 0 1 0 (1 ∷ []))) ∷ [])

-- each field cut off, there and faulty with nothing behind it, and there and sound

edition : found S 0 ∷ found (record { edition = 2; frame = 0; transactions = [] }) 1 ∷ found S 1 ∷ [] ≡ refused EndsInside 0 ∷ refused EditionUnknown 0 ∷ refused EndsInside 1 ∷ []
unfolding computing
edition = refl

frame : found (with 0 0 0 []) 1 ∷ found (with 0 0 0 []) 2 ∷ found S 2 ∷ [] ≡ refused EndsInside 1 ∷ refused FrameZero 1 ∷ refused EndsInside 2 ∷ []
unfolding computing
frame = refl

count :
    found (transactions_of 0) 2 ∷ map (λ n. found (transactions_of n) 3) (0 ∷ 1 ∷ 63 ∷ 64 ∷ [])
    ≡ refused EndsInside 2 ∷ refused TransactionCount 2 ∷ refused EndsInside 100 ∷ refused EndsInside 100 ∷ refused TransactionCount 2 ∷ []
unfolding computing
count = refl

-- under document 01's limits 33 were too many
count-before : map (λ n. found_under limits_before keepable (transactions_of n) 3) (32 ∷ 33 ∷ []) ∷ map (λ n. found (transactions_of n) 3) (33 ∷ []) ∷ [] ≡ (refused EndsInside 100 ∷ refused TransactionCount 2 ∷ []) ∷ (refused EndsInside 100 ∷ []) ∷ []
unfolding computing
count-before = refl

period :
    found (with 20 0 0 []) 100 ∷ map (λ T. found (with 20 T 0 []) 101) (0 ∷ 1 ∷ 3 ∷ 10 ∷ 20 ∷ 40 ∷ [])
    ≡ refused EndsInside 100 ∷ refused PeriodUnfit 100 ∷ refused EndsInside 101 ∷ refused PeriodUnfit 100 ∷ refused EndsInside 101 ∷ refused EndsInside 101 ∷ refused PeriodUnfit 100 ∷ []
unfolding computing
period = refl

modes :
    found (modes_of 0) 101 ∷ map (λ n. found (modes_of n) 102) (0 ∷ 1 ∷ 8 ∷ 9 ∷ [])
    ≡ refused EndsInside 101 ∷ refused ModeCount 101 ∷ refused EndsInside 102 ∷ refused EndsInside 102 ∷ refused ModeCount 101 ∷ []
unfolding computing
modes = refl

tasks :
    found (tasks_of 0) 102 ∷ map (λ n. found (tasks_of n) 103) (0 ∷ 1 ∷ 16 ∷ 17 ∷ [])
    ≡ refused EndsInside 102 ∷ refused TaskCount 102 ∷ refused EndsInside 110 ∷ refused EndsInside 110 ∷ refused TaskCount 102 ∷ []
unfolding computing
tasks = refl

-- the sum so far: S has two tasks and then one
sum-so-far :
    map (λ n. found_under (record { transactions = 2; modes = 1; tasks = 2; in_all = n }) keepable S 216) (1 ∷ 2 ∷ 3 ∷ [])
    ≡ refused TaskCount 102 ∷ refused TaskCount 202 ∷ accepted ∷ []
unfolding computing
sum-so-far = refl

-- five transactions of 13 tasks were too many under document 01's limits
sum-before :
    map (λ most. found_under most keepable (table 20 (list_of 5 (λ u. transaction 20 1 (list_of 13 (λ j. task 0 0 0 1 0 (1 ∷ [])))))) 636) (limits_before ∷ limits ∷ [])
    ≡ refused TaskCount 502 ∷ accepted ∷ []
unfolding computing
sum-before = refl

most-tasks : limits.in_all ≡ 128
most-tasks = refl

deadline :
    found (with 20 20 0 []) 113 ∷ found (with 20 20 0 []) 114 ∷ found (with 20 20 1 []) 114 ∷ []
    ≡ refused EndsInside 113 ∷ refused DeadlineZero 113 ∷ refused EndsInside 114 ∷ []
unfolding computing
deadline = refl

-- a task that never runs is found behind its last time
times :
    map (found (with 20 20 1 (0 ∷ 0 ∷ []))) (115 ∷ 116 ∷ 117 ∷ [])
    ∷ map (λ C. found (with 20 20 1 C) 117) ((0 ∷ 1 ∷ []) ∷ (1 ∷ 0 ∷ []) ∷ [])
    ∷ []
    ≡ (refused EndsInside 115 ∷ refused EndsInside 116 ∷ refused NeverRuns 115 ∷ []) ∷ (accepted ∷ accepted ∷ []) ∷ []
unfolding computing
times = refl

-- a task with offset 3, its deadline and its times, and a second one with deadline 0 behind it
abbrev due_at : (D : ℕ) → List ℕ → Table
due_at D times = table 20 (transaction 20 2 (task 3 0 0 D 0 times ∷ []) ∷ [])

abbrev fault_behind : (D : ℕ) → Table
fault_behind D = table 20 (transaction 20 2 (task 3 0 0 D 0 (2 ∷ 4 ∷ []) ∷ task 0 0 0 0 0 [] ∷ []) ∷ [])

-- a deadline below the offset, one tick below the offset plus the greatest time, which any mode may have, and just enough
short :
    map (λ D. found (due_at D (2 ∷ 4 ∷ [])) 117) (2 ∷ 6 ∷ 7 ∷ []) ∷ map (λ D. found (due_at D (4 ∷ 2 ∷ [])) 117) (6 ∷ 7 ∷ []) ∷ []
    ≡ (refused DeadlineShort 113 ∷ refused DeadlineShort 113 ∷ accepted ∷ []) ∷ (refused DeadlineShort 113 ∷ accepted ∷ []) ∷ []
unfolding computing
short = refl

-- the task's own faults come first, then this one, and then those of the next task
short-in-order :
    found (due_at 6 (2 ∷ 4 ∷ [])) 116 ∷ found (due_at 0 (2 ∷ 4 ∷ [])) 117 ∷ found (due_at 2 (0 ∷ 0 ∷ [])) 117 ∷ found (fault_behind 6) 200 ∷ found (fault_behind 7) 200 ∷ []
    ≡ refused EndsInside 116 ∷ refused DeadlineZero 113 ∷ refused NeverRuns 115 ∷ refused DeadlineShort 113 ∷ refused DeadlineZero 123 ∷ []
unfolding computing
short-in-order = refl

-- where any deadline is let in there is no such rule
short-let-in :
    map (λ D. found_under limits any (due_at D (2 ∷ 4 ∷ [])) 117) (2 ∷ 6 ∷ 0 ∷ []) ∷ map (λ D. found_under limits any (fault_behind D) 200) (6 ∷ []) ∷ []
    ≡ (accepted ∷ accepted ∷ refused DeadlineZero 113 ∷ []) ∷ (refused DeadlineZero 123 ∷ []) ∷ []
unfolding computing
short-let-in = refl
