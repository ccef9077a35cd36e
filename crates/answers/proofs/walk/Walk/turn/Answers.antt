-- `Walk::turn` meets its contract: where the L chain comes back the jobs by L are walked, and what they come to is what the
-- definition's turn gives.
use Rattle.std.proofs.lemmas.Result.{err_from_is_err_and}
use Rattle.periods.specs.Charge.{imposed}
use Rattle.answers.proofs.Instants.{instant-own, came-used, came-within, came-jobs, came-lasts}
use Rattle.answers.proofs.Walks.{turn-stops, turn-comes}
use Rattle.answers.proofs.walk.Walk.turn.Goals as goal

pub busy_chain-requires-clause-instant : goal.busy_chain-requires-clause-instant
busy_chain-requires-clause-instant c = instant-own c.of-x.ensures.kept c.of-x.ensures.is_task c.of-x.ensures

pub returns-in_err-came : goal.returns-in_err-came
returns-in_err-came c =
    let p = err_from_is_err_and c.from_residual.result c.from_residual.ensures.1 in
    let turn = c.of-x.ensures in
    rw (p.1, p.2) (turn-stops imposed _ _ _ _ _ _ _ _ (rw (turn.mode, turn.candidate) at c.busy_chain.ensures) c.in_err-came.was)

pub last_job-requires : goal.last_job-requires
last_job-requires c =
    let kept = c.of-x.ensures.kept in
    let is_task = c.of-x.ensures.is_task in
    came-within kept is_task (instant-own kept is_task c.of-x.ensures) _ _ c.busy_chain.ensures c.in_ok-came.was

pub jobs-requires-clause-instant : goal.jobs-requires-clause-instant
jobs-requires-clause-instant c = instant-own c.of-x.ensures.kept c.of-x.ensures.is_task c.of-x.ensures

pub jobs-requires-clause-lasts : goal.jobs-requires-clause-lasts
jobs-requires-clause-lasts c =
    let kept = c.of-x.ensures.kept in
    let is_task = c.of-x.ensures.is_task in
    came-lasts kept is_task (instant-own kept is_task c.of-x.ensures) _ _ c.busy_chain.ensures c.in_ok-came.was c.last_job.ensures c.jobs_to-jobs.ensures

pub jobs-requires-clause-used_le_budget : goal.jobs-requires-clause-used_le_budget
jobs-requires-clause-used_le_budget c =
    let kept = c.of-x.ensures.kept in
    let is_task = c.of-x.ensures.is_task in
    came-used kept is_task (instant-own kept is_task c.of-x.ensures) _ _ c.busy_chain.ensures c.in_ok-came.was

pub returns : goal.returns
returns c =
    let kept = c.of-x.ensures.kept in
    let is_task = c.of-x.ensures.is_task in
    let turn = c.of-x.ensures in
    let jobs = came-jobs kept is_task (instant-own kept is_task turn) _ _ c.busy_chain.ensures c.in_ok-came.was c.last_job.ensures c.jobs_to-jobs.ensures in
    rw (turn.mode, turn.candidate) at (turn-comes imposed _ _ _ _ _ _ _ _ c.busy_chain.ensures c.in_ok-came.was jobs c.jobs.ensures)
