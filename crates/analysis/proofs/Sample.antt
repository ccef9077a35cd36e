-- Each relation of the definitions at document 01's sample S: it holds of what is so, and fails of what is not. Task 2 is
-- task 0 of transaction 1; its bound is 5, after 6 evaluations, and its whole-job bound is 7.
use mathlib.Core.Path.{◌≡◌, refl, ap}
use mathlib.Core.Logic.{inl}
use Prim.Native.Nat.{ℕ}
use native.Mathlib.Omega.{arith}
use lib.Dec.{lit<, lit≤}
use Rattle.table.specs.Table.{IsTask}
use Rattle.table.specs.Sample.{S, lone, plain}
use Rattle.table.proofs.Kept.{S-kept}
use Rattle.periods.specs.Charge.{imposed, released}
use Rattle.analysis.specs.Rival.{Rival}
use Rattle.analysis.specs.Bound.{Setting, Bound, Tight, BusyLength, Completion, demand, busy}
use Rattle.analysis.specs.Overload.{Overload}
use Rattle.analysis.specs.Chain.{Chain, came, back, on}
use Rattle.analysis.specs.Needed.{Beyond, Never, job, start, JobChains, one, Needed, bounded, turn}
use Rattle.analysis.specs.Order.{Turn, walk_order}
use Rattle.analysis.specs.Answer.{Named, bound, spent, Answers}
use Rattle.analysis.specs.Who.{MostCharged, charged, nobody, none}
use Rattle.analysis.specs.Computing.{computing}
use Rattle.analysis.proofs.Chain.{chain_same}
use Rattle.analysis.proofs.Turn.{busy-length, job-completion}
use Rattle.analysis.proofs.Charges.{imposed-fair, released-fair}
use Rattle.analysis.proofs.Response.{bound-unique}
use Rattle.analysis.proofs.Who.{most-charged, most-unique}
use Rattle.analysis.proofs.Answer.{answers, answers-unique, answer-bound, needed-unique}

pub is_task-2 : IsTask S 1 0
unfolding computing
is_task-2 = record { owner = lit< tt; place = lit< tt }

-- ---- rivals and settings

-- task 1 is a rival of task 2, and task 2 is none of task 1
rival-of-2 : Rival S 1 0 0 0 1
unfolding computing
rival-of-2 = record { other = λ b. omega (arith, b.0); urgent = lit≤ tt; runs = lit< tt }

no-rival-of-1 : ¬ (Rival S 0 1 1 0 0)
unfolding computing
no-rival-of-1 r = omega (arith, r.urgent)

setting-2 : Setting S 1 0 0 0
unfolding computing
setting-2 = record { mode = lit< tt; runs = lit< tt; place = lit< tt; candidate = inl refl }

-- there is no second mode
no-setting : ¬ (Setting S 1 0 1 0)
unfolding computing
no-setting s = omega (arith, s.mode)

-- ---- overload

no-overload : ¬ (Overload S 1 0)
unfolding computing
no-overload o = omega (arith, o)

overload-of-11 : Overload (lone 10 (plain 0 11 1 11)) 0 0
unfolding computing
overload-of-11 = lit< tt

-- ---- chains: the L chain of task 2 goes 1, 5, 7, 7

busy-chain : Chain (busy S 1 0 0 0) Beyond 1 3 (came 7)
unfolding computing
busy-chain =
    on {t = 1} (λ e. omega (arith, e)) (λ h. omega (arith, h))
    (on {t = 5} (λ e. omega (arith, e)) (λ h. omega (arith, h)) (back {t = 7} refl))

no-shorter-chain : ¬ (Chain (busy S 1 0 0 0) Beyond 1 2 (came 5))
no-shorter-chain x =
    let z : ◌≡◌ {A = ℕ} 3 2 = (chain_same busy-chain x).0 in
    omega arith

length-2 : BusyLength S 1 0 0 0 7
length-2 = busy-length S-kept is_task-2 setting-2 busy-chain

not-length-8 : ¬ (BusyLength S 1 0 0 0 8)
not-length-8 l = omega (arith, l.least 7 length-2.has)

-- its one job goes 2, 4, 5, 5

job-chain : Chain (demand imposed S 1 0 0 0 (job S 1 0 0 0)) Never (start S 1 0 0 0 (job S 1 0 0 0)) 3 (came 5)
unfolding computing
job-chain =
    on {t = 2} (λ e. omega (arith, e)) (λ h. h)
    (on {t = 4} (λ e. omega (arith, e)) (λ h. h) (back {t = 5} refl))

completion-2 : Completion imposed S 1 0 0 0 (job S 1 0 0 0) 5
completion-2 = job-completion S-kept is_task-2 imposed-fair 0 0 (job S 1 0 0 0) job-chain

not-completion-6 : ¬ (Completion imposed S 1 0 0 0 (job S 1 0 0 0) 6)
not-completion-6 w = omega (arith, w.least 5 completion-2.has)

-- 3 evaluations for the length and 3 for the job

needed-2 : Needed S 1 0 (walk_order S 1 0) 6 bounded
unfolding computing
needed-2 = turn busy-chain (one JobChains.none job-chain) Needed.none

not-needed-5 : ¬ (Needed S 1 0 (walk_order S 1 0) 5 bounded)
not-needed-5 x =
    let z : ◌≡◌ {A = ℕ} 6 5 = (needed-unique needed-2 x).0 in
    omega arith

-- ---- answers

-- task 2 itself, in mode 0, with its first job
abbrev pub itself : Named
itself = record { mode = 0; candidate = 2; job = 0 }

pub answers-2 : Answers S 1 0 6 (bound 5 6 itself)
unfolding computing
answers-2 = answers S-kept is_task-2 6

pub answers-2-short : Answers S 1 0 5 (spent 5)
unfolding computing
answers-2-short = answers S-kept is_task-2 5

no-other-answer : ¬ (Answers S 1 0 6 (bound 4 6 itself))
no-other-answer x =
    let e : bound 5 6 itself ≡ bound 4 6 itself = answers-unique S-kept is_task-2 answers-2 x in
    let z : ◌≡◌ {A = ℕ} 5 4 = cc in
    omega arith

-- ---- bounds

pub bound-2 : Bound imposed S 1 0 5
unfolding computing
bound-2 = answer-bound S-kept is_task-2 imposed-fair 6 refl

pub whole-bound-2 : Bound released S 1 0 7
unfolding computing
whole-bound-2 = answer-bound S-kept is_task-2 released-fair 6 refl

not-bound-4 : ¬ (Bound imposed S 1 0 4)
not-bound-4 b = omega (arith, bound-unique S-kept is_task-2 bound-2 b)

tight-5 : Tight S 1 0 5
tight-5 = record { whole = 7; is_bound = whole-bound-2; tight = lit≤ tt }

not-tight-8 : ¬ (Tight S 1 0 8)
not-tight-8 t = omega (arith, t.tight, bound-unique S-kept is_task-2 whole-bound-2 t.is_bound)

-- ---- who it was, and what the bound is made of

-- at t = 5 tasks 0 and 1 charge task 2 the same, and task 0 is the first; the second is not
most-2 : MostCharged imposed S 1 0 0 5 (charged 3 (record { mode = 0; candidate = 0 }))
unfolding computing
most-2 = most-charged imposed S 1 0 0 5

not-the-last : ¬ (MostCharged imposed S 1 0 0 5 (charged 3 (record { mode = 0; candidate = 1 })))
not-the-last x =
    let e = most-unique most-2 x in
    let same : ◌≡◌ {A = Turn} (record { mode = 0; candidate = 0 }) (record { mode = 0; candidate = 1 }) = cc in
    omega (arith, ap (λ (y : Turn). y.candidate) same)

-- with rivals somebody is named though nothing is charged
not-nobody : ¬ (MostCharged imposed S 1 0 0 0 nobody)
unfolding computing
not-nobody (none h) = h (record { mode = 0; candidate = 0 }) _ (record { mode = lit< tt; place = lit< tt; rival = record { other = λ b. omega (arith, b.0); urgent = lit≤ tt; runs = lit< tt }; is = refl })

-- another candidate is not the first that gives the bound
not-by-another : ¬ (Answers S 1 0 6 (bound 5 6 (record { mode = 0; candidate = 0; job = 0 })))
not-by-another x =
    let e : bound 5 6 itself ≡ bound 5 6 (record { mode = 0; candidate = 0; job = 0 }) = answers-unique S-kept is_task-2 answers-2 x in
    let same : itself ≡ record { mode = 0; candidate = 0; job = 0 } = cc in
    omega (arith, ap (λ (y : Named). y.candidate) same)
