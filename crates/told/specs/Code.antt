-- Document 01's code of what is said of a task.
use Rattle.std.specs.Prelude.{◌≡◌, ℕ, Result, MatchResult}
use Rattle.told.specs.declared.Code.{Code}
use Rattle.told.specs.declared.Code.TheVariants.{Kept, Late, Overload, Beyond, Spent}
use Rattle.told.specs.declared.UnknownCode.{UnknownCode}

abbrev pub code_number : Code → ℕ
code_number Kept = 0
code_number Late = 20
code_number Overload = 21
code_number Beyond = 22
code_number Spent = 23

-- the result is the code with this number, or an error with a number that no code has
abbrev pub CodeOf : ℕ → Result Code UnknownCode → Type 0
CodeOf number r = MatchResult r (λ code. code_number code ≡ number) (λ e. (e.0 ≡ number) × ((code : Code) → ¬ (code_number code ≡ number)))
