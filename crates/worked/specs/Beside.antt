-- Beside the starred cases: the listing of S, the whole-job bound, and the errors that the spreadsheet taught.
use Rattle.std.specs.Prelude.{◌≡◌, refl, List, [], ◌∷◌, pos, negsuc}
use Rattle.table.specs.Table.{Table}
use Rattle.table.specs.Sample.{S, plain, task, transaction, table}
use Rattle.periods.specs.Phase.{remainder}
use Rattle.periods.specs.Charge.{imposed}
use Rattle.analysis.specs.Charge.{greatest}
use Rattle.analysis.specs.Bound.{last_job, demand, busy}
use Rattle.analysis.specs.Computing.{computing}
use Rattle.worked.specs.Question.{imposed_at, released_at, responses_in, evaluations_of, cells_of, whole_bound_of, Line, end, job_numbers, response_of, cells_under, given, asked, said}

-- a task of offset 3 and C 1 under one of offset 0 and C 5
abbrev pub behind : Table
behind = table 20 (transaction 20 1 (plain 0 5 2 20 ∷ plain 3 1 1 20 ∷ []) ∷ [])

-- a task with two times of which one is 0, beside another that runs in the other mode
abbrev pub halves : Table
halves = table 2 (transaction 2 2 (task 0 0 0 20 2 (0 ∷ 1 ∷ []) ∷ task 0 0 0 20 2 (1 ∷ 0 ∷ []) ∷ []) ∷ [])

-- a task whose second queued job is the later one
abbrev pub crowded : Table
crowded = table 8 (transaction 8 1 (task 4 1 1 20 1 (3 ∷ []) ∷ []) ∷ transaction 4 2 (task 3 0 1 20 1 (0 ∷ 2 ∷ []) ∷ []) ∷ [])

abbrev pub beside : List Line
beside =
    -- the listing of S
    record { ask = cells_of S 0 0 100; says = pos 0 ∷ pos 2 ∷ pos 3 ∷ pos 0 ∷ pos 0 ∷ pos 0 ∷ [] }
    ∷ record { ask = cells_of S 0 1 100; says = pos 0 ∷ pos 7 ∷ pos 5 ∷ pos 0 ∷ pos 1 ∷ pos 0 ∷ [] }
    ∷ record { ask = cells_of S 1 0 100; says = pos 20 ∷ pos 5 ∷ pos 6 ∷ pos 0 ∷ pos 2 ∷ pos 0 ∷ [] }
    -- charging releases would give task 2 the bound 7
    ∷ record { ask = whole_bound_of S 1 0; says = pos 7 ∷ [] }
    -- a task with C = 0 in a mode is no candidate in it: 2 evaluations, where 4 would be made if it were
    ∷ record { ask = evaluations_of halves 0 0; says = pos 2 ∷ [] }
    -- only a itself as candidate would give 4: candidate 0 pushes task 1 to 6
    ∷ record { ask = responses_in behind 0 1 0 1; says = pos 4 ∷ [] }
    ∷ record { ask = responses_in behind 0 1 0 0; says = pos 6 ∷ [] }
    ∷ record { ask = cells_of behind 0 1 100; says = pos 0 ∷ pos 6 ∷ pos 11 ∷ pos 0 ∷ pos 0 ∷ pos 0 ∷ [] }
    -- only the first queued job would give 9: the second does it, in mode 1, with the task itself, number 1, as candidate
    ∷ record { ask = responses_in crowded 1 0 1 0; says = pos 9 ∷ pos 10 ∷ pos 8 ∷ pos 6 ∷ [] }
    ∷ record { ask = cells_of crowded 1 0 100; says = pos 0 ∷ pos 10 ∷ pos 19 ∷ pos 1 ∷ pos 1 ∷ pos 1 ∷ [] }
    -- at s = T exactly: one job, neither less nor a second
    ∷ record { ask = imposed_at 10 4 0 10; says = pos 4 ∷ [] }
    ∷ record { ask = released_at 10 4 0 10; says = pos 4 ∷ [] }
    ∷ []

pub checked_beside : asked beside ≡ said beside
unfolding computing end job_numbers response_of cells_under given
checked_beside = refl

-- Imposed charges in L: from candidate 0 of C 5 they would close the busy time at 1, and the job that arrives at 3 is
-- lost; with released charges it lasts to 6 and holds that job
imposed-in-L : demand imposed behind 0 1 0 0 (last_job behind 0 1 0 1) 1 ∷ busy behind 0 1 0 0 1 ∷ busy behind 0 1 0 0 6 ∷ [] ≡ 1 ∷ 5 ∷ 6 ∷ []
unfolding computing
imposed-in-L = refl

-- A remainder that follows the sign: −12 by 10 is 8
minus-twelve : remainder (negsuc 11) 10 ≡ 8
unfolding computing
minus-twelve = refl

-- A transaction without rivals charges 0
no-rivals : greatest imposed S 0 0 1 10 ≡ 0
unfolding computing
no-rivals = refl
