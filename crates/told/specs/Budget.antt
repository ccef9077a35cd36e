-- What the cells of one image have in common under a budget and under a greater one.
use Rattle.std.specs.Prelude.{List, [], ◌∷◌, ◌≡◌, refl, ℕ, zero, suc, ◌*◌, ◌<◌, get_or, drop}
use Rattle.std.proofs.Common.{ap, arith}
use Rattle.told.specs.Cells.{cells_of_task, cells_in, code_in}

-- task number k has 23: the budget was spent
abbrev pub IsSpent : List ℕ → ℕ → Type 0
IsSpent cells k = code_in cells k ≡ 23

-- from the cells `less` to the cells `more` none of so many tasks is altered unless it had 23, nor what lies behind them
pub record Unaltered (tasks : ℕ) (less more : List ℕ) : Type 0 where
  pub each : (k : ℕ) → k < tasks → ¬ (IsSpent less k) → cells_in more k ≡ cells_in less k
  pub behind : drop (cells_of_task * tasks) more ≡ drop (cells_of_task * tasks) less

-- the listing of S with a budget of 5, and of 6: task 2 had 23
unfoldable pub five : List ℕ
five = 0 ∷ 2 ∷ 3 ∷ 0 ∷ 0 ∷ 0 ∷ 0 ∷ 7 ∷ 5 ∷ 0 ∷ 1 ∷ 0 ∷ 23 ∷ 0 ∷ 5 ∷ 0 ∷ 0 ∷ 0 ∷ []

unfoldable pub six : List ℕ
six = 0 ∷ 2 ∷ 3 ∷ 0 ∷ 0 ∷ 0 ∷ 0 ∷ 7 ∷ 5 ∷ 0 ∷ 1 ∷ 0 ∷ 20 ∷ 5 ∷ 6 ∷ 0 ∷ 2 ∷ 0 ∷ []

S-unaltered : Unaltered 3 five six
unfolding five six cells_in
S-unaltered = record { each = each; behind = refl }
  where
    each : (k : ℕ) → k < 3 → ¬ (IsSpent five k) → cells_in six k ≡ cells_in five k
    each zero l other = refl
    each (suc zero) l other = refl
    each (suc (suc zero)) l other = absurd (other refl)
    each (suc (suc (suc k))) l other = absurd (omega arith)

-- and back it is altered
S-altered : ¬ (Unaltered 3 six five)
unfolding five six cells_in
S-altered h =
    let same : cells_in five 2 ≡ cells_in six 2 = h.each 2 (omega arith) (λ e. omega (arith, e)) in
    omega (arith, ap (λ (cells : List ℕ). get_or cells 0 0) same)
