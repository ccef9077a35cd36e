-- The work cells: a table's row, and behind it what its tasks' phases, held-back jobs and weights are, so that an
-- evaluation works none of them out. Phases and held-back jobs are the table's; weights, their sums, held-back sums and the links
-- over what is to be charged are those of one task under analysis.
use Rattle.std.specs.Prelude.{◌≡◌, List, ℕ, ◌+◌, ◌*◌, ◌^◌, ◌≤◌, ◌<◌, length, get_or}
use Rattle.table.specs.Table.{Table, IsTask, transactions, modes, priority}
use Rattle.table.specs.Limits.{transactions_most, modes_most, tasks_most, tasks_in_all}
use Rattle.table.specs.Number.{number}
use Rattle.row.specs.Row.{row_cells, table_of, RowOfTable}
use Rattle.analysis.specs.Charge.{phase_of, held_of}
use Rattle.answers.specs.declared.charges.Subject.{Subject}
use Rattle.charge.specs.Weight.{weight, mode_weight, held_back}
use Rattle.charge.specs.Links.{setting_number, NextSetting, NextOther}

-- where the parts begin: after the table's row a phase and a held-back count for each task as candidate and each place in
-- its transaction; a weight for each mode and task; their sum for each transaction and mode; for each task as candidate and
-- each mode a held-back sum, its lower half first, and the next setting to be charged; and for each transaction the next other one

abbrev pub phases_cell : ℕ
phases_cell = row_cells

abbrev pub held_cell : ℕ
held_cell = phases_cell + tasks_in_all * tasks_most

abbrev pub weights_cell : ℕ
weights_cell = held_cell + tasks_in_all * tasks_most

abbrev pub mode_weights_cell : ℕ
mode_weights_cell = weights_cell + modes_most * tasks_in_all

abbrev pub sums_cell : ℕ
sums_cell = mode_weights_cell + transactions_most * modes_most

abbrev pub settings_cell : ℕ
settings_cell = sums_cell + 2 * (tasks_in_all * modes_most)

abbrev pub others_cell : ℕ
others_cell = settings_cell + (tasks_in_all * modes_most + 1)

abbrev pub work_cells : ℕ
work_cells = others_cell + (transactions_most + 1)

-- work cells that begin with the row of a kept table, with its phases and held-back jobs
pub record Lent (work : List ℕ) : Type 0 where
  pub size : length work ≡ work_cells
  pub table : RowOfTable work
  pub phases :
      (i c j : ℕ)
      → IsTask (table_of work) i c
      → IsTask (table_of work) i j
      → get_or work (phases_cell + tasks_most * number (table_of work) i c + j) 0 ≡ phase_of (table_of work) i c j
  pub held :
      (i c j : ℕ)
      → IsTask (table_of work) i c
      → IsTask (table_of work) i j
      → get_or work (held_cell + tasks_most * number (table_of work) i c + j) 0 ≡ held_of (table_of work) i c j

-- the subject is a task of the table, with its priority
pub record Chosen (tab : Table) (s : Subject) : Type 0 where
  pub is_task : IsTask tab s.u s.a
  pub priority : s.priority ≡ priority tab s.u s.a

-- the weights in the cells are those of the subject's rivals
pub record Weighs (work : List ℕ) (s : Subject) : Type 0 where
  pub weight :
      (i m j : ℕ)
      → IsTask (table_of work) i j
      → m < modes (table_of work) i
      → get_or work (weights_cell + tasks_in_all * m + number (table_of work) i j) 0 ≡ weight (table_of work) s.u s.a i m j
  pub mode_weight :
      (i m : ℕ)
      → i < transactions (table_of work)
      → m < modes (table_of work) i
      → get_or work (mode_weights_cell + modes_most * i + m) 0 ≡ mode_weight (table_of work) s.u s.a i m
  pub sum :
      (i m c : ℕ)
      → IsTask (table_of work) i c
      → m < modes (table_of work) i
      → get_or work (sums_cell + 2 * (modes_most * number (table_of work) i c + m)) 0
      + get_or work (sums_cell + 2 * (modes_most * number (table_of work) i c + m) + 1) 0 * 2 ^ 32
      ≡ held_back (table_of work) s.u s.a i m c

-- the work cells are the subject's: its weights, and the links over what its rivals charge
pub record IsSubject (work : List ℕ) (s : Subject) : Type 0 where
  pub chosen : Chosen (table_of work) s
  pub weighs : Weighs work s
  pub settings :
      (i m c : ℕ)
      → IsTask (table_of work) i c
      → m ≤ modes (table_of work) i
      → NextSetting (table_of work) s.u s.a (setting_number (table_of work) i m c) (get_or work (settings_cell + setting_number (table_of work) i m c) 0)
  pub others : (i : ℕ) → i ≤ transactions (table_of work) → NextOther (table_of work) s.u s.a i (get_or work (others_cell + i) 0)
