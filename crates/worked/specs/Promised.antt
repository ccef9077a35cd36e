-- The starred cases of whole tasks once more, and one that is too long to be computed, as what we promise of a task: `Answers`, which speaks of least busy lengths, least
-- completions and needed evaluations, and not of the function that computes them.
use Rattle.std.specs.Prelude.{List, [], ◌∷◌, ℕ}
use Rattle.table.specs.Table.{Table, IsTask}
use Rattle.table.specs.Kept.{Kept}
use Rattle.table.specs.Sample.{S, lone, plain, task}
use Rattle.analysis.specs.Answer.{Answer, bound, overload, beyond, spent, Answers}
use Rattle.analysis.specs.Cases.{by}
use Rattle.worked.specs.Starred.{delayed, lower_of}

pub record Case : Type 0 where
  pub tab : Table
  pub u : ℕ
  pub a : ℕ
  pub budget : ℕ
  pub says : Answer

-- the table keeps the bounds on a table and has that task, and the task's answer is the one that is said
pub record Promised (c : Case) : Type 0 where
  pub kept : Kept c.tab
  pub is_task : IsTask c.tab c.u c.a
  pub answers : Answers c.tab c.u c.a c.budget c.says

unfoldable pub Each : (Case → Type 0) → List Case → Type 0
Each P [] = Unit {0}
Each P (c ∷ cs) = P c × Each P cs

-- One task, frame and T 10, C 2, J 12: bound 14, 4 evaluations
abbrev pub first : Case
first = record { tab = delayed; u = 0; a = 0; budget = 100; says = bound 14 4 (by 0 0 0) }

abbrev pub cases : List Case
cases =
    first
    -- One task, frame and T 10: C 10 bounded by 10; C 11 gives 21
    ∷ record { tab = lone 10 (plain 0 10 1 10); u = 0; a = 0; budget = 100; says = bound 10 3 (by 0 0 0) }
    ∷ record { tab = lone 10 (plain 0 11 1 11); u = 0; a = 0; budget = 100; says = overload }
    -- Two modes: the lower task ends at 6, not 9 as with 4 and 4
    ∷ record { tab = lower_of 2 (4 ∷ 1 ∷ []) (1 ∷ 4 ∷ []); u = 1; a = 0; budget = 100; says = bound 6 9 (by 0 2 0) }
    ∷ record { tab = lower_of 1 (4 ∷ []) (4 ∷ []); u = 1; a = 0; budget = 100; says = bound 9 12 (by 0 2 0) }
    -- S: 2, 7, 5
    ∷ record { tab = S; u = 0; a = 0; budget = 100; says = bound 2 3 (by 0 0 0) }
    ∷ record { tab = S; u = 0; a = 1; budget = 100; says = bound 7 5 (by 0 1 0) }
    ∷ record { tab = S; u = 1; a = 0; budget = 100; says = bound 5 6 (by 0 2 0) }
    -- S, task 2: budget 5 gives 23, 0, 5; budget 6 gives 20, 5, 6
    ∷ record { tab = S; u = 1; a = 0; budget = 5; says = spent 5 }
    ∷ record { tab = S; u = 1; a = 0; budget = 6; says = bound 5 6 (by 0 2 0) }
    ∷ []

-- Unmarked in document 01. One task, frame and T 10, C 10, B 1: 22 after 1,677,722 evaluations, given a budget of at least that
abbrev pub unmarked : (budget : ℕ) → Case
unmarked budget = record { tab = lone 10 (task 0 0 1 10 0 (10 ∷ [])); u = 0; a = 0; budget = budget; says = beyond 1_677_722 }
