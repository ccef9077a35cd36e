-- When document 01's answer and the plain analysis agree, and what that means.
use Rattle.std.specs.Prelude.{◌≡◌, ℕ, ◌≤◌}
use Rattle.table.specs.Table.{Table, period}
use Rattle.analysis.specs.Answer.{Answer, bound, overload, beyond, spent}
use Rattle.jitter.specs.Plain.{response_of}

-- the plain response of a task that completes at t is at most its period
abbrev pub InPeriod : Table → (u t : ℕ) → Type 0
InPeriod tab u t = response_of tab u t ≤ period tab u

-- An answer of document 01 that agrees with a bound: it is that bound, if the budget lasts; 21 and 22 do not agree with any
abbrev pub Agrees : (R : ℕ) → Answer → Type 0
Agrees R (bound Q n by) = Q ≡ R
Agrees R overload = ⊥
Agrees R (beyond n) = ⊥
Agrees R (spent n) = Unit {0}
