-- `Walk::job` meets its contract: the chain of the N-th job stays within the busy time, and its end with its response is
-- what one step of the definition's walk gives.
use Rattle.std.proofs.Common.{refl, ◌∙◌, ap}
use Rattle.std.proofs.lemmas.Result.{err_from_is_err_and}
use Rattle.periods.specs.Charge.{imposed}
use Rattle.analysis.specs.Choice.{count}
use Rattle.analysis.specs.Walk.{better}
use Rattle.answers.specs.Turn.{best_meant}
use Rattle.answers.proofs.Instants.{instant-response, nth-number, nth-near, nth-reaches, reaches-came}
use Rattle.answers.proofs.Walks.{met-answered, job-stops, job-comes}
use Rattle.answers.proofs.walk.Walk.job.Goals as goal

pub job-p-requires : goal.job-p-requires
job-p-requires c = nth-near c.requires.instant.kept c.requires.instant.is_task c.requires.instant c.requires.lasts c.requires.n_lt_jobs refl

pub job_chain-requires-clause-reaches : goal.job_chain-requires-clause-reaches
job_chain-requires-clause-reaches c =
    nth-reaches c.requires.instant.kept c.requires.instant.is_task c.requires.instant c.requires.lasts c.requires.n_lt_jobs c.job-p.ensures

pub returns-in_err-came : goal.returns-in_err-came
returns-in_err-came c =
    let p = err_from_is_err_and c.from_residual.result c.from_residual.ensures.1 in
    let number = nth-number c.requires.instant.kept c.requires.instant.is_task c.requires.instant c.requires.lasts c.requires.n_lt_jobs c.job-p.ensures in
    rw (p.1, p.2) (job-stops imposed _ _ _ _ _ _ _ _ _ number c.job_chain.ensures c.in_err-came.was)

pub response-requires : goal.response-requires
response-requires c =
    let reaches = nth-reaches c.requires.instant.kept c.requires.instant.is_task c.requires.instant c.requires.lasts c.requires.n_lt_jobs c.job-p.ensures in
    reaches-came c.requires.instant.kept c.requires.instant.is_task reaches _ _ c.job_chain.ensures c.in_ok-came.was

pub returns : goal.returns
returns c =
    let number = nth-number c.requires.instant.kept c.requires.instant.is_task c.requires.instant c.requires.lasts c.requires.n_lt_jobs c.job-p.ensures in
    let answer = c.response.ensures ∙ ap count (instant-response c.requires.instant.kept c.requires.instant.is_task c.requires.instant c.job-p.result.number c.in_ok-came.came.t.0) in
    job-comes imposed _ _ _ _ _ _ _ _ _ number c.job_chain.ensures c.in_ok-came.was
    (c.better.ensures ∙ ap (better (best_meant c.args.self.best)) (met-answered _ _ _ _ _ _ (rw number at answer) refl))
