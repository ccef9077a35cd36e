-- A t that is split by the period of a transaction, t = q·T + r: what the transaction charges by t is whole periods of its
-- weights and a rest for each task.
use Rattle.std.specs.Prelude.{Bool, true, false, cond, ℕ, zero, suc, ◌+◌, ◌*◌, ◌-◌, min, leb, ltb}
use Rattle.table.specs.Sum.{sum}
use Rattle.table.specs.Table.{Table, period, tasks}
use Rattle.analysis.specs.Charge.{phase_of}
use Rattle.charge.specs.Weight.{weight, mode_weight, held_back}

-- the periods that are charged whole: of what jobs impose the last is part of the rest
unfoldable pub whole_periods : Bool → (q : ℕ) → ℕ
whole_periods true q = q
whole_periods false q = q - 1

-- what a task of phase φ and weight C charges beside them
unfoldable pub rest_of : Bool → (q T r φ C : ℕ) → ℕ
rest_of true q T r φ C = cond (ltb φ r) C 0
rest_of false zero T r φ C = min (r - φ) C
rest_of false (suc q) T r φ C = cond (leb φ r) (C + min (r - φ) C) (min (r + T - φ) C)

-- and task j of transaction i, for candidate c in mode m
unfoldable pub rest_at : Bool → Table → (u a i m c q r j : ℕ) → ℕ
rest_at whole tab u a i m c q r j = rest_of whole q (period tab i) r (phase_of tab i c j) (weight tab u a i m j)

-- what all its tasks do
unfoldable pub rests : Bool → Table → (u a i m c q r : ℕ) → ℕ
rests whole tab u a i m c q r = sum (tasks tab i) (rest_at whole tab u a i m c q r)

-- the most that it charges before q + 1 periods have passed: what is held back, and a job of each task for each period
unfoldable pub charge_cap : Table → (u a i m c q : ℕ) → ℕ
charge_cap tab u a i m c q = held_back tab u a i m c + (q + 1) * mode_weight tab u a i m
