-- What the scan of a row looks at in turn: the rules of each part of the table, its numbers as the row's readers give them, its
-- place as it is counted up on the way.
use Rattle.std.specs.Prelude.{List, ℕ, ◌+◌, ◌^◌, ltb}
use Rattle.refusals.specs.declared.Refusal.TheVariants.{TooLarge}
use Rattle.refusals.specs.Answer.{Answer, ◌then◌, checked}
use Rattle.table.specs.Limits.{limits}
use Rattle.table.specs.Fields.{HeadField, TaskField, Field, width_in_head, width_in_task}
use Rattle.table.specs.Fields.HeadField.{period, modes, tasks}
use Rattle.table.specs.Fields.TaskField.{offset, jitter, blocking, deadline, priority, time}
use Rattle.table.specs.Rules.{Look, part, header_rules, head_rules, task_rules, transaction_rules, body_rules}
use Rattle.table.specs.Rules.Deadlines.{keepable}
use Rattle.row.specs.Row.{period_cell, modes_cell, has_cell, offset_cell, jitter_cell, blocking_cell, deadline_cell, priority_cell, table_of, head_cell, body_cell, time_cell}
use Rattle.format.specs.Places.{place_in_head, place_in_task, task_at}
use Rattle.format.specs.Write.{table_look}

-- a number is too large for the w bits at p
abbrev pub fits_at : (n w p : ℕ) → Answer
fits_at n w p = checked (ltb n (2 ^ w)) TooLarge p

-- fields that hold those numbers, of those widths, at those places
abbrev pub look_at : {F : Type 0} → (number width place : F → ℕ) → Look F
look_at number width place = record { finding = λ f. fits_at (number f) (width f) (place f); place = place; number = number }

-- what a row's readers give for transaction u, and for the task with number k

abbrev pub head_number : List ℕ → (u : ℕ) → HeadField → ℕ
head_number row u period = head_cell row u period_cell
head_number row u modes = head_cell row u modes_cell
head_number row u tasks = head_cell row u has_cell

abbrev pub task_number : List ℕ → (k : ℕ) → TaskField → ℕ
task_number row k offset = body_cell row k offset_cell
task_number row k jitter = body_cell row k jitter_cell
task_number row k blocking = body_cell row k blocking_cell
task_number row k deadline = body_cell row k deadline_cell
task_number row k priority = body_cell row k priority_cell
task_number row k (time m) = time_cell row k m

abbrev pub head_look : List ℕ → (u p : ℕ) → Look HeadField
head_look row u p = look_at (head_number row u) width_in_head (place_in_head p)

abbrev pub task_look : List ℕ → (k q : ℕ) → Look TaskField
task_look row k q = look_at (task_number row k) width_in_task (place_in_task q)

-- ---- the rules of each part

abbrev pub header_fault : List ℕ → Answer
header_fault row = header_rules ◌then◌ limits (part Field.header (table_look (table_of row)))

-- the task with number k, of m modes, that would start at q
abbrev pub task_fault : List ℕ → (m k q : ℕ) → Answer
task_fault row m k q = task_rules ◌then◌ keepable m (task_look row k q)

-- the counts and the period of transaction u that would start at p, where `before` tasks stand before it
abbrev pub head_fault : List ℕ → (u before p : ℕ) → Answer
head_fault row u before p = head_rules ◌then◌ limits (table_of row).frame before (head_look row u p)

abbrev pub transaction_fault : List ℕ → (u before p : ℕ) → Answer
transaction_fault row u before p =
    transaction_rules ◌then◌ limits keepable (table_of row).frame before (head_look row u p)
    (λ j. task_look row (before + j) (task_at p (head_cell row u modes_cell) j))

-- the transactions
abbrev pub body_fault : List ℕ → Answer
body_fault row = body_rules ◌then◌ limits keepable (table_look (table_of row))
