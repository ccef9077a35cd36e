-- Document 01's last image read in front of cells that held sevens, computed: with as many cells as a row has and one more, and with
-- three; and the same with a deadline of 0 in front of those three. And what it asks of a deadline that is a tick short.
use Rattle.std.specs.Prelude.{◌≡◌, refl, List, [], ◌∷◌, ℕ, ◌+◌, take, drop, set, replicate, Some}
use Rattle.std.proofs.Common.{lit<, lit≤}
use Rattle.refusals.specs.declared.Refusal.TheVariants.{DeadlineZero, NoRoom}
use Rattle.refusals.specs.Answer.{accepted, refused as refused_with}
use Rattle.table.specs.Lists.{joined}
use Rattle.table.specs.Table.{transactions, transaction, tasks, task, modes, offset, deadline, time}
use Rattle.table.specs.Keepable.{greatest_time}
use Rattle.table.specs.Fields.{TaskField}
use Rattle.format.specs.Cases.{last}
use Rattle.format.specs.Computing.{computing}
use Rattle.row.specs.Row.{row_cells, tasks_cell, of_transaction, of_task}
use Rattle.image.specs.Fill.{tasks_cells, heads_in, of_tasks_in, every_task_in, transactions_over, filled_over}
use Rattle.image.specs.Read.{front_fault, front_over}
use Rattle.image.specs.declared.due.Due.{Due}
use Rattle.image.specs.Due.{DueAt}

abbrev sevens : ℕ → List ℕ
sevens n = replicate n 7

abbrev after : List ℕ → ℕ → List ℕ
after image n = front_over (front_fault image (sevens n)) image (sevens n)

answers :
    (front_fault last (sevens (row_cells + 1)) ≡ accepted)
    × (front_fault last (sevens 3) ≡ refused_with NoRoom 0)
    × (front_fault (set last 20 0) (sevens 3) ≡ refused_with DeadlineZero 139)
unfolding computing
answers = (refl, refl, refl)

-- the header's cells, those of the transaction and none of a next one; the task's, with the times in 8 modes, and none of a next one;
-- and the cell behind the row
cells :
    (take 12 (after last (row_cells + 1)) ≡ 1 ∷ 10 ∷ 1 ∷ 1 ∷ 0 ∷ 10 ∷ 1 ∷ 0 ∷ 1 ∷ 0 ∷ 7 ∷ 7 ∷ [])
    × (take 16 (drop tasks_cell (after last (row_cells + 1))) ≡ 0 ∷ 0 ∷ 0 ∷ 10 ∷ 5 ∷ 0 ∷ 3 ∷ 0 ∷ 0 ∷ 0 ∷ 0 ∷ 0 ∷ 0 ∷ 0 ∷ 7 ∷ 7 ∷ [])
    × (drop row_cells (after last (row_cells + 1)) ≡ 7 ∷ [])
unfolding computing joined of_transaction of_task tasks_cells heads_in of_tasks_in every_task_in transactions_over filled_over
cells = (refl, refl, refl)

-- a refusal leaves the sevens
refused : (after last 3 ≡ sevens 3) × (after (set last 20 0) 3 ≡ sevens 3)
unfolding computing
refused = (refl, refl)

-- with a deadline of 2: at its place it is told with offset 0 and time 3
abbrev told : Due
told = record { offset = 0; time = 3; deadline = 2 }

due : DueAt (set last 20 0x10) 139 (Some told)
unfolding computing transactions transaction tasks task modes offset deadline time greatest_time
due =
    record {
      u = 0;
      j = 0;
      field = TaskField.deadline;
      holds = record { has = (record { owner = lit< tt; place = lit< tt }, tt); bit = record { from = lit≤ tt; below = lit< tt } };
      offset = refl;
      time = refl;
      deadline = refl;
    }
