-- The settings that an evaluation charges, each a candidate in a mode, and links to the next of them. A setting is spare
-- where its task is no rival, or where a later mode weighs no less, task by task, and so charges no less.
use Rattle.std.specs.Prelude.{◌≡◌, ℕ, ◌+◌, ◌*◌, ◌≤◌, ◌<◌}
use Rattle.table.specs.Table.{Table, IsTask, transactions, modes, tasks}
use Rattle.table.specs.Limits.{modes_most}
use Rattle.table.specs.Number.{in_all, number}
use Rattle.analysis.specs.Choice.{most}
use Rattle.charge.specs.Weight.{weight, mode_weight}

-- the number of the setting of candidate c of transaction i in mode m
unfoldable pub setting_number : Table → (i m c : ℕ) → ℕ
setting_number tab i m c = modes_most * number tab i c + m

-- in mode m no task of transaction i weighs more than in mode n
pub record Below (tab : Table) (u a i m n : ℕ) : Type 0 where
  pub each : (j : ℕ) → j < tasks tab i → weight tab u a i m j ≤ weight tab u a i n j

-- some later mode weighs no less
pub record Dropped (tab : Table) (u a i m : ℕ) : Type 0 where
  pub by : ℕ
  pub later : m < by
  pub mode : by < modes tab i
  pub below : Below tab u a i m by

-- what need not be charged
pub data Spare (tab : Table) (u a i m c : ℕ) : Type 0 where
  none : weight tab u a i m c ≡ 0 → Spare tab u a i m c
  dropped : Dropped tab u a i m → Spare tab u a i m c

-- candidate c is a rival in mode m
pub record Charged (tab : Table) (u a i m c : ℕ) : Type 0 where
  pub mode : m < modes tab i
  pub weighs : ¬ (weight tab u a i m c ≡ 0)

-- v is the next setting from z on, or none: it is charged, and those before it are spare
pub record NextSetting (tab : Table) (u a z v : ℕ) : Type 0 where
  pub from : z ≤ v
  pub within : v ≤ modes_most * in_all tab
  pub charged : (i m c : ℕ) → IsTask tab i c → m < modes_most → v ≡ setting_number tab i m c → Charged tab u a i m c
  pub spare :
      (i m c : ℕ)
      → IsTask tab i c
      → m < modes tab i
      → z ≤ setting_number tab i m c
      → setting_number tab i m c < v
      → Spare tab u a i m c

-- a transaction that charges nothing beside u: u itself, or one without a rival
pub data Idle (tab : Table) (u a i : ℕ) : Type 0 where
  own : i ≡ u → Idle tab u a i
  weightless : most (modes tab i) (mode_weight tab u a i) ≡ 0 → Idle tab u a i

-- v is the next other transaction from i on, or none
pub record NextOther (tab : Table) (u a i v : ℕ) : Type 0 where
  pub from : i ≤ v
  pub within : v ≤ transactions tab
  pub other : ¬ (v ≡ u)
  pub idle : (j : ℕ) → i ≤ j → j < v → Idle tab u a j
