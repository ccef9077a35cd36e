-- The definitions computed at small tables and numbers, each of which tells a right definition from a wrong one.
use Rattle.std.specs.Prelude.{◌≡◌, refl, Bool, true, false, [], ◌∷◌, pos, ◌-ℤ◌, ℕ, zero, suc, ◌+◌, ◌*◌, ◌≤◌, ◌<◌}
use Rattle.std.proofs.Common.{arith}
use Rattle.table.specs.Table.{Table}
use Rattle.table.specs.Sample.{S, task, transaction, table}
use Rattle.analysis.specs.Charge.{charge}
use Rattle.analysis.specs.Computing.{computing}
use Rattle.charge.specs.Later.{later_of}
use Rattle.charge.specs.Weight.{weight, mode_weight, held_back}
use Rattle.charge.specs.Split.{whole_periods, rest_of, rest_at, rests, charge_cap}
use Rattle.charge.specs.Links.{setting_number, Below}

-- ---- one task, T 10, C 4, phase 2: what is split is what is charged

abbrev split : Bool → (q r : ℕ) → ℕ
split whole q r = whole_periods whole q * 4 + rest_of whole q 10 r 2 4

abbrev asked : Bool → (q r : ℕ) → ℕ
asked whole q r = later_of whole 10 4 (pos (q * 10 + r) -ℤ pos 2)

-- by t = 1, 5, 11, 12, 15 and 23 it imposes 0, 3, 4, 4, 7 and 9
imposed-split : split false 0 1 ∷ split false 0 5 ∷ split false 1 1 ∷ split false 1 2 ∷ split false 1 5 ∷ split false 2 3 ∷ [] ≡ 0 ∷ 3 ∷ 4 ∷ 4 ∷ 7 ∷ 9 ∷ []
unfolding computing whole_periods rest_of
imposed-split = refl

imposed-asked : asked false 0 1 ∷ asked false 0 5 ∷ asked false 1 1 ∷ asked false 1 2 ∷ asked false 1 5 ∷ asked false 2 3 ∷ [] ≡ 0 ∷ 3 ∷ 4 ∷ 4 ∷ 7 ∷ 9 ∷ []
unfolding computing
imposed-asked = refl

-- and releases 0, 4, 4, 4, 8 and 12
released-split : split true 0 1 ∷ split true 0 5 ∷ split true 1 1 ∷ split true 1 2 ∷ split true 1 5 ∷ split true 2 3 ∷ [] ≡ 0 ∷ 4 ∷ 4 ∷ 4 ∷ 8 ∷ 12 ∷ []
unfolding computing whole_periods rest_of
released-split = refl

released-asked : asked true 0 1 ∷ asked true 0 5 ∷ asked true 1 1 ∷ asked true 1 2 ∷ asked true 1 5 ∷ asked true 2 3 ∷ [] ≡ 0 ∷ 4 ∷ 4 ∷ 4 ∷ 8 ∷ 12 ∷ []
unfolding computing
released-asked = refl

-- ---- S, for task 2 (transaction 1, place 0): tasks 0 and 1 weigh 2 and 3, itself nothing

S-weights : weight S 1 0 0 0 0 ∷ weight S 1 0 0 0 1 ∷ weight S 1 0 1 0 0 ∷ mode_weight S 1 0 0 0 ∷ mode_weight S 1 0 1 0 ∷ [] ≡ 2 ∷ 3 ∷ 0 ∷ 5 ∷ 0 ∷ []
unfolding computing weight mode_weight
S-weights = refl

-- by t = 5 task 0 as candidate imposes 2 + 1 and releases 2 + 3, which is all that it can before a period has passed
S-rests : rests false S 1 0 0 0 0 0 5 ∷ rests true S 1 0 0 0 0 0 5 ∷ charge (later_of true) S 1 0 0 0 0 5 ∷ charge_cap S 1 0 0 0 0 0 ∷ [] ≡ 3 ∷ 5 ∷ 5 ∷ 5 ∷ []
unfolding computing weight mode_weight held_back rest_of rest_at rests charge_cap
S-rests = refl

S-settings : setting_number S 0 0 1 ∷ setting_number S 1 3 0 ∷ [] ≡ 8 ∷ 19 ∷ []
unfolding computing setting_number
S-settings = refl

-- ---- two modes: a task of times 2 and 3, which J 12 holds back twice, under a less urgent one

modal : Table
modal = table 10 (transaction 10 2 (task 0 12 0 20 9 (2 ∷ 3 ∷ []) ∷ []) ∷ transaction 10 1 (task 0 0 0 20 1 (1 ∷ []) ∷ []) ∷ [])

modal-weights : mode_weight modal 1 0 0 0 ∷ mode_weight modal 1 0 0 1 ∷ held_back modal 1 0 0 0 0 ∷ held_back modal 1 0 0 1 0 ∷ [] ≡ 2 ∷ 3 ∷ 4 ∷ 6 ∷ []
unfolding computing modal weight mode_weight held_back
modal-weights = refl

-- mode 0 is the lesser, and mode 1 is not
lesser : Below modal 1 0 0 0 1
unfolding computing modal weight
lesser = record { each = only }
  where
    only : (j : ℕ) → j < 1 → weight modal 1 0 0 0 j ≤ weight modal 1 0 0 1 j
    only zero l = omega arith
    only (suc j) l = omega arith

greater : ¬ (Below modal 1 0 0 1 0)
unfolding computing modal weight
greater below = omega (arith, below.each 0 (omega arith))
