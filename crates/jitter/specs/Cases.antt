-- The plain analysis computed at small tables, each of which tells a right definition from a wrong one. A chain of the workload from 1
-- ends at the completion (proofs Start.chain-completion).
use Rattle.std.specs.Prelude.{◌≡◌, refl, [], ◌∷◌, map, ℕ, ◌+◌, ◌*◌, ◌/◌}
use Rattle.table.specs.Table.{Table}
use Rattle.table.specs.Sample.{task, transaction, table, lone}
use Rattle.periods.specs.Charge.{imposed}
use Rattle.analysis.specs.Chain.{came, over}
use Rattle.analysis.specs.Answer.{bound, overload}
use Rattle.analysis.specs.Walk.{Stop, ended, short, chain, beyond?, answer}
use Rattle.analysis.specs.Computing.{computing as analysing}
use Rattle.analysis.specs.Cases.{by}
use Rattle.jitter.specs.Request.{request}
use Rattle.jitter.specs.Plain.{request_of, rival_request, workload, response_of}

unfoldable pub computing : Unit {0}
unfolding analysing request request_of rival_request workload response_of
computing = tt

-- where a chain came to an end, or 0
abbrev end : Stop → ℕ
end (ended (came t) left) = t
end (ended over left) = 0
end short = 0

-- where the chain of a task's workload from 1 ends, within a hundred evaluations
abbrev plainly : Table → ℕ → ℕ
plainly tab u = end (chain (workload tab u) beyond? 100 1)

-- one task: T, O, J, B, C and P
abbrev alone : (T O J B C P : ℕ) → Table
alone T O J B C P = lone T (task O J B 60 P (C ∷ []))

-- and two, in a frame of 60
abbrev pub two : (T O J B C P T' O' J' B' C' P' : ℕ) → Table
two T O J B C P T' O' J' B' C' P' =
    table 60 (transaction T 1 (task O J B 60 P (C ∷ []) ∷ []) ∷ transaction T' 1 (task O' J' B' 60 P' (C' ∷ []) ∷ []) ∷ [])

-- a task of C 1 under one of T 10, C 4: it completes at 5. With the floor that document 003 prints it would at 1, before the other has
-- run at all
ceiling : plainly (two 20 0 0 0 1 1 10 0 0 0 4 2) 0 ≡ 5
unfolding computing
ceiling = refl

printed : end (chain (λ t. 1 + (t + 0) / 10 * 4) beyond? 100 1) ≡ 1
unfolding computing
printed = refl

-- the other's jitter of 7 lets a second job of it come; its offset, and the task's own, change nothing
delayed : plainly (two 20 0 0 0 1 1 10 0 7 0 4 2) 0 ∷ plainly (two 20 3 0 0 1 1 10 9 7 0 4 2) 0 ∷ [] ≡ 9 ∷ 9 ∷ []
unfolding computing
delayed = refl

-- the task's own jitter is in its response, and not in its completion; blocking is in both
own : plainly (alone 20 0 3 0 1 1) 0 ∷ plainly (alone 20 0 0 2 1 1) 0 ∷ [] ≡ 1 ∷ 3 ∷ []
unfolding computing
own = refl

response : response_of (alone 20 0 3 0 1 1) 0 1 ≡ 4
unfolding computing
response = refl

-- a task of equal priority counts, and a less urgent one does not
urgent : map (λ P. plainly (two 20 0 0 0 1 2 10 0 0 0 4 P) 0) (1 ∷ 2 ∷ 3 ∷ []) ≡ 1 ∷ 5 ∷ 5 ∷ []
unfolding computing
urgent = refl

-- A response that is the period, of a task with offset 3: document 01's bound is response plus offset
agreeing : plainly (two 6 3 1 0 1 1 10 0 0 0 4 2) 0 ∷ response_of (two 6 3 1 0 1 1 10 0 0 0 4 2) 0 5 ∷ [] ≡ 5 ∷ 6 ∷ []
unfolding computing
agreeing = refl

agreed : answer imposed (two 6 3 1 0 1 1 10 0 0 0 4 2) 0 0 100 ≡ bound 9 7 (by 0 0 0)
unfolding computing
agreed = refl

-- One tick more and they need not agree: T 10, C 11 completes plainly at 11, and is overloaded
too_long : plainly (alone 10 0 0 0 11 1) 0 ≡ 11
unfolding computing
too_long = refl

too-long-overload : answer imposed (alone 10 0 0 0 11 1) 0 0 100 ≡ overload
unfolding computing
too-long-overload = refl

-- so does T 10, C 10, B 1, which passes the horizon in document 01's unmarked case (crate worked)
too-full : plainly (alone 10 0 0 1 10 1) 0 ≡ 11
unfolding computing
too-full = refl

-- and T 4, C 2 under T 6, C 3 completes plainly at 5, but the second queued job has a bound of 6
queued : plainly (two 4 0 0 0 2 1 6 0 0 0 3 2) 0 ≡ 5
unfolding computing
queued = refl

queued-bound : answer imposed (two 4 0 0 0 2 1 6 0 0 0 3 2) 0 0 100 ≡ bound 6 16 (by 0 0 1)
unfolding computing
queued-bound = refl
