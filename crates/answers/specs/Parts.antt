-- The parts of the work cells as they are filled: task by task or mode by mode, in the order of their
-- numbers.
use Rattle.std.specs.Prelude.{◌≡◌, List, ℕ, ◌+◌, ◌*◌, ◌^◌, ◌≤◌, ◌<◌, length, get_or, take}
use Rattle.table.specs.Table.{Table, IsTask, transactions, tasks, modes}
use Rattle.table.specs.Limits.{modes_most, tasks_most, tasks_in_all}
use Rattle.table.specs.Number.{before, number}
use Rattle.analysis.specs.Charge.{phase_of, held_of}
use Rattle.row.specs.Row.{table_of}
use Rattle.answers.specs.declared.charges.Subject.{Subject}
use Rattle.answers.specs.Work.{phases_cell, held_cell, weights_cell, mode_weights_cell, sums_cell, settings_cell, others_cell, Lent, Chosen, IsSubject}
use Rattle.charge.specs.Links.{setting_number, NextSetting, NextOther}
use Rattle.charge.specs.Weight.{weight, mode_weight, held_back}

-- the cells are as many as the old ones, and the first n are the same
pub record SameTo (n : ℕ) (old work : List ℕ) : Type 0 where
  pub size : length work ≡ length old
  pub front : take n work ≡ take n old

-- s is the task with number k
pub record IsSubjectAt (tab : Table) (k : ℕ) (s : Subject) : Type 0 where
  pub chosen : Chosen tab s
  pub numbered : number tab s.u s.a ≡ k

-- s is task a of u of that table, and the work cells are its own
pub record Chooses (work : List ℕ) (tab : Table) (u a : ℕ) (s : Subject) : Type 0 where
  pub table : table_of work ≡ tab
  pub lent : Lent work
  pub subject : IsSubject work s
  pub is : (s.u ≡ u) × (s.a ≡ a)

-- the phases, and the jobs held back, of the candidates with numbers below k
pub record Phased (tab : Table) (k : ℕ) (work : List ℕ) : Type 0 where
  pub phases :
      (i c j : ℕ)
      → IsTask tab i c
      → IsTask tab i j
      → number tab i c < k
      → get_or work (phases_cell + tasks_most * number tab i c + j) 0 ≡ phase_of tab i c j
  pub held :
      (i c j : ℕ)
      → IsTask tab i c
      → IsTask tab i j
      → number tab i c < k
      → get_or work (held_cell + tasks_most * number tab i c + j) 0 ≡ held_of tab i c j

-- transaction i has n tasks, with numbers from f on
pub record TasksOf (tab : Table) (i f n : ℕ) : Type 0 where
  pub owner : i < transactions tab
  pub first : f ≡ before tab i
  pub count : n ≡ tasks tab i

-- the weights of transaction i in mode m, and their sum, for the subject a of u
pub record ModeWeighed (tab : Table) (u a i m : ℕ) (work : List ℕ) : Type 0 where
  pub weight :
      (j : ℕ)
      → IsTask tab i j
      → get_or work (weights_cell + tasks_in_all * m + number tab i j) 0 ≡ weight tab u a i m j
  pub mode_weight : get_or work (mode_weights_cell + modes_most * i + m) 0 ≡ mode_weight tab u a i m

-- the held-back sums of its candidates
pub record Summed (tab : Table) (u a i m : ℕ) (work : List ℕ) : Type 0 where
  pub sum :
      (c : ℕ)
      → IsTask tab i c
      → get_or work (sums_cell + 2 * (modes_most * number tab i c + m)) 0
      + get_or work (sums_cell + 2 * (modes_most * number tab i c + m) + 1) 0 * 2 ^ 32
      ≡ held_back tab u a i m c

-- both for the modes below k, where mode m of transaction i is the one at modes_most * i + m
pub record WeighedTo (tab : Table) (u a k : ℕ) (work : List ℕ) : Type 0 where
  pub weighed : (i m : ℕ) → i < transactions tab → m < modes tab i → modes_most * i + m < k → ModeWeighed tab u a i m work
  pub summed : (i m : ℕ) → i < transactions tab → m < modes tab i → modes_most * i + m < k → Summed tab u a i m work

-- the links of the settings of tasks with numbers from k on
pub record LinkedFrom (tab : Table) (u a k : ℕ) (work : List ℕ) : Type 0 where
  pub settings :
      (i m c : ℕ)
      → IsTask tab i c
      → m ≤ modes tab i
      → k ≤ number tab i c
      → NextSetting tab u a (setting_number tab i m c) (get_or work (settings_cell + setting_number tab i m c) 0)

-- the links of the transactions from i on
pub record OthersFrom (tab : Table) (u a i : ℕ) (work : List ℕ) : Type 0 where
  pub others : (j : ℕ) → i ≤ j → j ≤ transactions tab → NextOther tab u a j (get_or work (others_cell + j) 0)
