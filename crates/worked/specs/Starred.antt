-- 'Checked by hand' of document 01: all cases marked * as one statement over one list.
use Rattle.std.specs.Prelude.{◌≡◌, refl, List, [], ◌∷◌, pos, negsuc, ℕ}
use Rattle.table.specs.Table.{Table}
use Rattle.table.specs.Sample.{S, lone, plain, task, transaction, table}
use Rattle.analysis.specs.Computing.{computing}
use Rattle.worked.specs.Question.{own_held, phase_from, imposed_at, released_at, phase_in, jobs_in, responses_in, bound_of, code_of, evaluations_of, cells_of, Line, end, job_numbers, response_of, cells_under, given, asked, said}

-- One task, frame and T 10, C 2, J 12, D 20, rest 0
abbrev pub delayed : Table
delayed = lone 10 (task 0 12 0 20 0 (2 ∷ []))

-- T 20, offsets 0 and 4, with these times, and a lower task of C 1
abbrev pub lower_of : ℕ → List ℕ → List ℕ → Table
lower_of modes C C' = table 20 (transaction 20 modes (task 0 0 0 20 2 C ∷ task 4 0 0 20 2 C' ∷ []) ∷ transaction 20 1 (plain 0 1 1 20 ∷ []) ∷ [])

abbrev pub starred : List Line
starred =
    -- T 10: held-back count of the candidate itself for J = 0, 3, 10, 11 is 0, 1, 1, 2
    record { ask = own_held 10 0; says = pos 0 ∷ [] }
    ∷ record { ask = own_held 10 3; says = pos 1 ∷ [] }
    ∷ record { ask = own_held 10 10; says = pos 1 ∷ [] }
    ∷ record { ask = own_held 10 11; says = pos 2 ∷ [] }
    -- T 20, J 0, offsets 0 and 9: phases 9 and 11
    ∷ record { ask = phase_from 20 9 0; says = pos 9 ∷ [] }
    ∷ record { ask = phase_from 20 0 9; says = pos 11 ∷ [] }
    -- T 10, C 4, phase 2: imposed at t = 2, 3, 6, 12, 13 is 0, 1, 4, 4, 5; released 0, 4, 4, 4, 8
    ∷ record { ask = imposed_at 10 4 2 2; says = pos 0 ∷ [] }
    ∷ record { ask = imposed_at 10 4 2 3; says = pos 1 ∷ [] }
    ∷ record { ask = imposed_at 10 4 2 6; says = pos 4 ∷ [] }
    ∷ record { ask = imposed_at 10 4 2 12; says = pos 4 ∷ [] }
    ∷ record { ask = imposed_at 10 4 2 13; says = pos 5 ∷ [] }
    ∷ record { ask = released_at 10 4 2 2; says = pos 0 ∷ [] }
    ∷ record { ask = released_at 10 4 2 3; says = pos 4 ∷ [] }
    ∷ record { ask = released_at 10 4 2 6; says = pos 4 ∷ [] }
    ∷ record { ask = released_at 10 4 2 12; says = pos 4 ∷ [] }
    ∷ record { ask = released_at 10 4 2 13; says = pos 8 ∷ [] }
    -- One task with J 12: phase 8, jobs −1 and 0, responses 14 and 6, bound 14, 4 evaluations
    ∷ record { ask = phase_in delayed 0 0 0; says = pos 8 ∷ [] }
    ∷ record { ask = jobs_in delayed 0 0 0 0; says = negsuc 0 ∷ pos 0 ∷ [] }
    ∷ record { ask = responses_in delayed 0 0 0 0; says = pos 14 ∷ pos 6 ∷ [] }
    ∷ record { ask = bound_of delayed 0 0; says = pos 14 ∷ [] }
    ∷ record { ask = evaluations_of delayed 0 0; says = pos 4 ∷ [] }
    -- One task, frame and T 10: C 10 bounded by 10; C 11 gives 21
    ∷ record { ask = bound_of (lone 10 (plain 0 10 1 10)) 0 0; says = pos 10 ∷ [] }
    ∷ record { ask = code_of (lone 10 (plain 0 11 1 11)) 0 0; says = pos 21 ∷ [] }
    -- Two modes: the lower task ends at 6, not 9 as with 4 and 4
    ∷ record { ask = bound_of (lower_of 2 (4 ∷ 1 ∷ []) (1 ∷ 4 ∷ [])) 1 0; says = pos 6 ∷ [] }
    ∷ record { ask = bound_of (lower_of 1 (4 ∷ []) (4 ∷ [])) 1 0; says = pos 9 ∷ [] }
    -- S: 2, 7, 5
    ∷ record { ask = bound_of S 0 0; says = pos 2 ∷ [] }
    ∷ record { ask = bound_of S 0 1; says = pos 7 ∷ [] }
    ∷ record { ask = bound_of S 1 0; says = pos 5 ∷ [] }
    -- S, task 2: budget 5 gives 23, 0, 5; budget 6 gives 20, 5, 6, from mode 0, candidate 2 and its first job
    ∷ record { ask = cells_of S 1 0 5; says = pos 23 ∷ pos 0 ∷ pos 5 ∷ pos 0 ∷ pos 0 ∷ pos 0 ∷ [] }
    ∷ record { ask = cells_of S 1 0 6; says = pos 20 ∷ pos 5 ∷ pos 6 ∷ pos 0 ∷ pos 2 ∷ pos 0 ∷ [] }
    ∷ []

-- The definitions give what document 01 says, on every line
pub checked_by_hand : asked starred ≡ said starred
unfolding computing end job_numbers response_of cells_under given
checked_by_hand = refl
