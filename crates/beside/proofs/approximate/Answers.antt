-- By the way in which the image was opened.
use Rattle.std.proofs.Common.{ℕ, Err}
use Rattle.std.proofs.lemmas.Result.{err_from_is_err_and}
use Rattle.table.specs.Table.{Table}
use Rattle.beside.specs.declared.Unanswered.{Unanswered}
use Rattle.beside.specs.Told.{ApproximatesFrom, Approximates}
use Rattle.beside.proofs.Ways.{opened-none, opened-task}
use Rattle.beside.proofs.approximate.Goals as goal

pub returns-in_err-task : goal.returns-in_err-task
returns-in_err-task c =
    let p = err_from_is_err_and c.from_residual.result c.from_residual.ensures.1 in
    rw (p.1, p.2)
    (opened-none (λ (e : Unanswered). Approximates c.args.image.now c.args.task c.args.k c.args.t (Err e)) (λ x n e. Approximates.refused e) Approximates.unknown Approximates.several c.in_err-task.ensures)

pub returns : goal.returns
returns c =
    let (ok, there, single, said) = opened-task (λ (tab : Table) (u : ℕ). ApproximatesFrom tab u c.args.k c.args.t c.approximation_of.result) c.in_ok-task.ensures c.approximation_of.ensures in
    Approximates.single ok there single said
