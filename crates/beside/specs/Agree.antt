-- Document 01's cells of a task beside its plain response, of the same image.
use Rattle.std.specs.Prelude.{◌≡◌, refl, ◌⊎◌, List, ℕ, get_or}
use Rattle.std.proofs.Math.Decide.{dec_le}
use Rattle.analysis.specs.Answer.{code_by}
use Rattle.told.specs.Cells.{cells_in, code_in}
use Rattle.told.specs.Budget.{five}

-- the second cell of task number k, its bound
abbrev pub bound_in : List ℕ → ℕ → ℕ
bound_in cells k = get_or (cells_in cells k) 1 0

-- it has a bound: its code is 0 or 20
abbrev pub HasBound : List ℕ → ℕ → Type 0
HasBound cells k = (code_in cells k ≡ 0) ⊎ (code_in cells k ≡ 20)

-- its cells say that the bound is R, of a task with deadline D
pub record SaysBound (cells : List ℕ) (k R D : ℕ) : Type 0 where
  pub code : code_in cells k ≡ code_by (dec_le R D)
  pub bound : bound_in cells k ≡ R

-- the listing of S: task 1 has the bound 7 within its deadline of 10, and were the deadline 6 its code would be 20
S-says : SaysBound five 1 7 10
unfolding five cells_in code_by dec_le
S-says = record { code = refl; bound = refl }

short-code : code_by (dec_le 7 6) ≡ 20
unfolding code_by dec_le
short-code = refl
