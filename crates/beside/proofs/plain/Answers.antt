-- By the way in which the image was opened.
use Rattle.std.proofs.Common.{ℕ, Err}
use Rattle.std.proofs.lemmas.Result.{err_from_is_err_and}
use Rattle.table.specs.Table.{Table}
use Rattle.beside.specs.declared.Unanswered.{Unanswered}
use Rattle.beside.specs.Told.{RespondsFrom, Responds}
use Rattle.beside.proofs.Ways.{opened-none, opened-task}
use Rattle.beside.proofs.plain.Goals as goal

pub returns-in_err-task : goal.returns-in_err-task
returns-in_err-task c =
    let p = err_from_is_err_and c.from_residual.result c.from_residual.ensures.1 in
    rw (p.1, p.2)
    (opened-none (λ (e : Unanswered). Responds c.args.image.now c.args.task (Err e)) (λ x n e. Responds.refused e) Responds.unknown Responds.several c.in_err-task.ensures)

pub returns : goal.returns
returns c =
    let (ok, there, single, said) = opened-task (λ (tab : Table) (u : ℕ). RespondsFrom tab u c.response_of.result) c.in_ok-task.ensures c.response_of.ensures in
    Responds.single ok there single said
