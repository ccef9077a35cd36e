-- Tasks are numbered from 0 in image order: those of transaction 0 first, then those of transaction 1, and so on.
use Rattle.std.specs.Prelude.{ℕ, ◌+◌, ◌≡◌}
use Rattle.table.specs.Sum.{sum}
use Rattle.table.specs.Table.{Table, transactions, tasks, IsTask}

-- how many tasks stand before transaction u
unfoldable pub before : Table → ℕ → ℕ
before tab u = sum u (tasks tab)

-- how many tasks there are in all
unfoldable pub in_all : Table → ℕ
in_all tab = before tab (transactions tab)

-- the number of task j of transaction u
unfoldable pub number : Table → ℕ → ℕ → ℕ
number tab u j = before tab u + j

-- where task number k stands
pub record Place (tab : Table) (k : ℕ) : Type 0 where
  pub u : ℕ
  pub j : ℕ
  pub is_task : IsTask tab u j
  pub numbered : number tab u j ≡ k
