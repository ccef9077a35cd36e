-- Answers computed at small tables, each of which tells a right definition from a wrong one. Smaller cases stand under the
-- definitions themselves.
use Rattle.std.specs.Prelude.{◌≡◌, refl, [], ◌∷◌, ℕ}
use Rattle.table.specs.Table.{Table}
use Rattle.table.specs.Sample.{S, lone, plain, task, transaction, table}
use Rattle.periods.specs.Charge.{imposed, released}
use Rattle.analysis.specs.Answer.{Named, bound, overload, beyond, spent, cells}
use Rattle.analysis.specs.Walk.{answer}
use Rattle.analysis.specs.Computing.{computing}

-- ---- answers, with mode, candidate's number and job

abbrev pub by : (mode candidate job : ℕ) → Named
by m c j = record { mode = m; candidate = c; job = j }

-- S: 2, 7 and 5, with 3, 5 and 6 evaluations; charging releases would give task 2 the bound 7
S-answers : answer imposed S 0 0 100 ∷ answer imposed S 0 1 100 ∷ answer imposed S 1 0 100 ∷ answer released S 1 0 100 ∷ [] ≡ bound 2 3 (by 0 0 0) ∷ bound 7 5 (by 0 1 0) ∷ bound 5 6 (by 0 2 0) ∷ bound 7 6 (by 0 2 0) ∷ []
unfolding computing
S-answers = refl

-- task 1's release, not what it imposes, keeps the processor busy until task 0 arrives; and task 1 as candidate, not
-- task 0 itself, gives the bound
pair : Table
pair = table 4 (transaction 4 1 (plain 1 1 2 20 ∷ plain 0 2 2 20 ∷ []) ∷ [])

pair-answer : answer imposed pair 0 0 100 ≡ bound 3 8 (by 0 1 0)
unfolding computing pair
pair-answer = refl

-- jitter moves the instant
delayed : answer imposed (lone 2 (task 0 1 0 20 2 (1 ∷ []))) 0 0 100 ≡ bound 2 2 (by 0 0 0)
unfolding computing
delayed = refl

-- the second queued job is the later one
second-job : answer imposed (table 8 (transaction 8 1 (task 4 1 1 20 1 (3 ∷ []) ∷ []) ∷ transaction 4 2 (task 3 0 1 20 1 (0 ∷ 2 ∷ []) ∷ []) ∷ [])) 1 0 100 ≡ bound 10 19 (by 1 1 1)
unfolding computing
second-job = refl

-- the other transaction's rival runs in its mode 1 only
other-mode : answer imposed (table 2 (transaction 2 2 (task 0 0 0 20 2 (0 ∷ 1 ∷ []) ∷ []) ∷ transaction 2 1 (plain 1 1 2 20 ∷ []) ∷ [])) 1 0 100 ≡ bound 3 4 (by 0 1 0)
unfolding computing
other-mode = refl

-- one task, T 10, with two modes
abbrev lone-modes : (C C' : ℕ) → Table
lone-modes C C' = table 10 (transaction 10 2 (task 0 0 0 20 1 (C ∷ C' ∷ []) ∷ []) ∷ [])

-- a task of equal priority is a rival, a less urgent one is not
equals : Table
equals = table 2 (transaction 2 1 (plain 0 1 1 20 ∷ plain 0 1 1 20 ∷ []) ∷ [])

equal-rival : answer imposed equals 0 0 100 ≡ bound 2 8 (by 0 0 0)
unfolding computing equals
equal-rival = refl

-- of candidates that give the same bound the first is named, though it is not the task itself
equal-candidates : answer imposed equals 0 1 100 ≡ bound 2 8 (by 0 0 0)
unfolding computing equals
equal-candidates = refl

-- and so is the first of modes that do; a mode that gives more is named though it comes later
equal-modes : answer imposed (lone-modes 2 2) 0 0 100 ∷ answer imposed (lone-modes 2 3) 0 0 100 ∷ [] ≡ bound 2 6 (by 0 0 0) ∷ bound 3 6 (by 1 0 0) ∷ []
unfolding computing
equal-modes = refl

less-urgent : answer imposed (table 3 (transaction 3 1 (plain 0 1 2 20 ∷ plain 0 1 1 20 ∷ []) ∷ [])) 0 0 100 ≡ bound 1 2 (by 0 0 0)
unfolding computing
less-urgent = refl

blocked : answer imposed (lone 4 (task 0 0 1 20 1 (1 ∷ []))) 0 0 100 ≡ bound 2 3 (by 0 0 0)
unfolding computing
blocked = refl

-- the response is counted from the event, not from the arrival
offset-counts : answer imposed (lone 2 (plain 1 1 1 20)) 0 0 100 ≡ bound 2 2 (by 0 0 0)
unfolding computing
offset-counts = refl

-- a full frame is no overload, one tick more is
full : answer imposed (lone 10 (plain 0 10 1 20)) 0 0 100 ∷ answer imposed (lone 10 (plain 0 11 1 20)) 0 0 100 ∷ [] ≡ bound 10 3 (by 0 0 0) ∷ overload ∷ []
unfolding computing
full = refl

-- a task with C = 0 in a mode is no candidate there: 2 evaluations, not 4
idle-mode : Table
idle-mode = table 2 (transaction 2 2 (task 0 0 0 20 2 (0 ∷ 1 ∷ []) ∷ task 0 0 0 20 2 (1 ∷ 0 ∷ []) ∷ []) ∷ [])

idle-candidate : answer imposed idle-mode 0 0 100 ≡ bound 1 2 (by 1 0 0)
unfolding computing idle-mode
idle-candidate = refl

-- L may be the horizon itself; one tick more is past it
horizon : answer imposed (lone 16_777_215 (plain 0 16_777_215 1 16_777_215)) 0 0 100 ∷ answer imposed (lone 16_777_215 (task 0 0 1 16_777_215 1 (16_777_215 ∷ []))) 0 0 100 ∷ [] ≡ bound 16_777_215 3 (by 0 0 0) ∷ beyond 1 ∷ []
unfolding computing
horizon = refl

-- ---- budget: 6 evaluations are enough for task 2 of S, 5 are not; none is needed for an overload

budgets : answer imposed S 1 0 5 ∷ answer imposed S 1 0 6 ∷ answer imposed S 1 0 7 ∷ answer imposed S 1 0 0 ∷ answer imposed (lone 10 (plain 0 11 1 20)) 0 0 0 ∷ [] ≡ spent 5 ∷ bound 5 6 (by 0 2 0) ∷ bound 5 6 (by 0 2 0) ∷ spent 0 ∷ overload ∷ []
unfolding computing
budgets = refl

-- ---- cells: a bound that is the deadline keeps it

deadlines :
    cells 5 (bound 5 6 (by 1 2 3)) ∷ cells 4 (bound 5 6 (by 1 2 3)) ∷ []
    ≡ record { code = 0; bound = 5; evaluations = 6; mode = 1; candidate = 2; job = 3 }
    ∷ record { code = 20; bound = 5; evaluations = 6; mode = 1; candidate = 2; job = 3 }
    ∷ []
unfolding computing
deadlines = refl

codes :
    cells 4 overload ∷ cells 4 (beyond 7) ∷ cells 4 (spent 9) ∷ []
    ≡ record { code = 21; bound = 0; evaluations = 0; mode = 0; candidate = 0; job = 0 }
    ∷ record { code = 22; bound = 0; evaluations = 7; mode = 0; candidate = 0; job = 0 }
    ∷ record { code = 23; bound = 0; evaluations = 9; mode = 0; candidate = 0; job = 0 }
    ∷ []
unfolding computing
codes = refl
