-- A task by its number, and a decision as a flag.
use Rattle.std.specs.Prelude.{◌≡◌, Bool, true, false, ℕ, ◌+◌}
use Rattle.table.specs.Table.{Table, IsTask}
use Rattle.table.specs.Number.{before}

-- u is the transaction of task number k
pub record Owner (tab : Table) (k u : ℕ) : Type 0 where
  pub place : ℕ
  pub is_task : IsTask tab u place
  pub numbered : before tab u + place ≡ k

-- a decision as the flag that a test gives
unfoldable pub tested : {A : Type 0} → Dec A → Bool
tested (yes h) = true
tested (no h) = false
