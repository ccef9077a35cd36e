-- `Walk::mode` meets its contract. The loop's invariant: what is left of the candidates gives what all of them give. In a mode in
-- which the task does not run there are no turns.
use Rattle.std.proofs.Common.{◌≡◌, refl, subst, ◌-◌, arith}
use Rattle.std.proofs.lemmas.Result.{err_from_is_err_and}
use Rattle.table.specs.Table.{tasks, time}
use Rattle.periods.specs.Charge.{imposed}
use Rattle.analysis.specs.Rival.{Runs}
use Rattle.analysis.specs.Walk.{walk_turns}
use Rattle.answers.specs.Analysed.{Analysed}
use Rattle.answers.proofs.Walks.{going_on, going-stops, going-ends, candidates-next, candidates-none, mode-runs, mode-idle}
use Rattle.answers.proofs.walk.Walk.mode.Goals as goal

pub returns-then-time-eq0 : goal.returns-then-time-eq0
unfolding walk_turns
returns-then-time-eq0 c =
    let idle : ¬ (Runs c.args.cells.now.tab c.args.cells.now.u c.args.m c.args.cells.now.a) = λ h. omega (arith, subst (λ (v : Analysed). c.time.result ≡ time v.tab v.u c.args.m v.a) c.cells.view_is c.time.ensures, c.if-time-eq0.true) in
    rw (mode-idle _ _ _ _ idle) (going-ends (record { within = c.requires.used_le_budget; same = refl }) (λ left best. refl))

pub loop-c-init : goal.loop-c-init
loop-c-init c =
    let runs : Runs c.args.cells.now.tab c.args.cells.now.u c.args.m c.args.cells.now.a = omega (arith, subst (λ (v : Analysed). c.time.result ≡ time v.tab v.u c.args.m v.a) c.cells.view_is c.time.ensures, c.if-time-eq0.false) in
    let all : c.tasks-count.result - 0 ≡ tasks c.args.cells.now.tab c.args.cells.now.u = omega (arith, subst (λ (v : Analysed). c.tasks-count.result ≡ tasks v.tab v.u) c.cells.view_is c.tasks-count.ensures) in
    record { within = c.requires.used_le_budget; same = rw (mode-runs _ _ _ _ runs, all) refl }

pub returns-in_err-state : goal.returns-in_err-state
returns-in_err-state c =
    let p = err_from_is_err_and c.from_residual.result c.from_residual.ensures.1 in
    rw (p.1, p.2) (going-stops c.loop-c.invariant (candidates-next imposed _ _ _ _ _ _ c.loop-c-test.true) c.candidate.ensures c.in_err-state.was)

pub loop-c-preserved : goal.loop-c-preserved
loop-c-preserved c =
    going_on c.loop-c.invariant (candidates-next imposed _ _ _ _ _ _ c.loop-c-test.true) c.candidate.ensures c.in_ok-state.was

pub returns : goal.returns
returns c = going-ends c.loop-c.invariant (candidates-none imposed _ _ _ _ _ _ c.loop-c-test.false)
