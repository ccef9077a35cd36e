-- What the rivals of task a of transaction u weigh: their times, and 0 for any other task.
use Rattle.std.specs.Prelude.{ℕ, ◌*◌}
use Rattle.table.specs.Sum.{sum}
use Rattle.table.specs.Table.{Table, tasks, time}
use Rattle.analysis.specs.Choice.{when}
use Rattle.analysis.specs.Rival.{rival?}
use Rattle.analysis.specs.Charge.{held_of}

-- the time of task j where it is a rival in mode m, else 0
unfoldable pub weight : Table → (u a i m j : ℕ) → ℕ
weight tab u a i m j = when (rival? tab u a i m j) (time tab i m j)

-- the weights of transaction i in mode m together
unfoldable pub mode_weight : Table → (u a i m : ℕ) → ℕ
mode_weight tab u a i m = sum (tasks tab i) (weight tab u a i m)

-- what the jobs held back to candidate c's instant weigh
unfoldable pub held_back : Table → (u a i m c : ℕ) → ℕ
held_back tab u a i m c = sum (tasks tab i) (λ j. held_of tab i c j * weight tab u a i m j)
