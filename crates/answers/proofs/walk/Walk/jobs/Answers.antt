-- `Walk::jobs` meets its contract. The loop's invariant: what is left of the jobs gives what all of them give.
use Rattle.std.proofs.Common.{◌≡◌, refl, ◌-◌, arith}
use Rattle.std.proofs.lemmas.Result.{err_from_is_err_and}
use Rattle.periods.specs.Charge.{imposed}
use Rattle.answers.proofs.Walks.{going_on, going-stops, going-ends, jobs-next, jobs-none}
use Rattle.answers.proofs.walk.Walk.jobs.Goals as goal

pub loop-n-init : goal.loop-n-init
loop-n-init c =
    let all : c.args.jobs.0 - 0 ≡ c.args.jobs.0 = omega arith in
    record { within = c.requires.used_le_budget; same = rw all refl }

pub returns-in_err-state : goal.returns-in_err-state
returns-in_err-state c =
    let p = err_from_is_err_and c.from_residual.result c.from_residual.ensures.1 in
    rw (p.1, p.2) (going-stops c.loop-n.invariant (jobs-next imposed _ _ _ _ _ _ _ c.loop-n-test.true) c.job.ensures c.in_err-state.was)

pub loop-n-preserved : goal.loop-n-preserved
loop-n-preserved c =
    going_on c.loop-n.invariant (jobs-next imposed _ _ _ _ _ _ _ c.loop-n-test.true) c.job.ensures c.in_ok-state.was

pub returns : goal.returns
returns c = going-ends c.loop-n.invariant (jobs-none imposed _ _ _ _ _ _ _ c.loop-n-test.false)
