-- Overload: what a and its rivals demand in one major frame exceeds the major frame.
use Rattle.std.specs.Prelude.{◌≡◌, refl, [], ◌∷◌, ℕ, ◌*◌, ◌/◌, ◌<◌}
use Rattle.std.proofs.Math.Decide.{dec_le, ℕ_discrete}
use Rattle.table.specs.Sum.{sum}
use Rattle.table.specs.Table.{Table, transactions, period, modes, tasks, time}
use Rattle.table.specs.Computing.{computing as tables}
use Rattle.table.specs.Sample.{S, task, transaction, table}
use Rattle.analysis.specs.Choice.{when, most}
use Rattle.analysis.specs.Rival.{Runs, urgent?, runs?}

-- the times of a and its rivals in transaction i and mode m: of every task with priority at least a's
unfoldable pub load : Table → (u a i m : ℕ) → ℕ
load tab u a i m = sum (tasks tab i) (λ j. when (urgent? tab u a i j) (time tab i m j))

-- The modes that count: for u only those where a runs, for any other transaction every mode
abbrev pub Counts : Table → (u a i m : ℕ) → Type 0
Counts tab u a i m = i ≡ u → Runs tab u m a

abbrev pub counts_by : {A B : Type 0} → Dec A → Dec B → Dec (A → B)
counts_by (no h) d = yes (λ a. absurd (h a))
counts_by (yes a) (yes b) = yes (λ x. b)
counts_by (yes a) (no h) = no (λ f. h (f a))

unfoldable pub counts? : (tab : Table) (u a i m : ℕ) → Dec (Counts tab u a i m)
counts? tab u a i m = counts_by (ℕ_discrete i u) (runs? tab u m a)

-- the greatest load of transaction i over the modes that count
unfoldable pub most_load : Table → (u a i : ℕ) → ℕ
most_load tab u a i = most (modes tab i) (λ m. when (counts? tab u a i m) (load tab u a i m))

-- the demand in one major frame
unfoldable pub frame_demand : Table → (u a : ℕ) → ℕ
frame_demand tab u a = sum (transactions tab) (λ i. tab.frame / period tab i * most_load tab u a i)

-- S in the eyes of each of its tasks
S-demands : frame_demand S 0 0 ∷ frame_demand S 0 1 ∷ frame_demand S 1 0 ∷ [] ≡ 2 ∷ 5 ∷ 7 ∷ []
unfolding tables dec_le ℕ_discrete when most urgent? runs? load counts? most_load frame_demand
S-demands = refl

-- of u only the modes where a runs count: the other task's 3 ticks in mode 1 are no demand for task 0
own-modes : frame_demand (table 2 (transaction 2 2 (task 0 0 0 20 1 (1 ∷ 0 ∷ []) ∷ task 0 0 0 20 1 (0 ∷ 3 ∷ []) ∷ []) ∷ [])) 0 0 ≡ 1
unfolding tables dec_le ℕ_discrete when most urgent? runs? load counts? most_load frame_demand
own-modes = refl

abbrev pub Overload : Table → (u a : ℕ) → Type 0
Overload tab u a = tab.frame < frame_demand tab u a

unfoldable pub overload? : (tab : Table) (u a : ℕ) → Dec (Overload tab u a)
overload? tab u a = dec_le _ _
