-- By the task that was chosen, or 13 where the table has no task of that number.
use Rattle.std.proofs.lemmas.Result.{err_from_is_err_and}
use Rattle.answers.proofs.Choosing.{chosen-lent, chosen-told, chosen-none}
use Rattle.answers.proofs.pushed.parts_from.Goals as goal

pub made-requires : goal.made-requires
made-requires c =
    let (lent, subject) = chosen-lent c.in_ok-s.ensures in record { lent = lent; subject = subject }

pub returns-in_err-s : goal.returns-in_err-s
returns-in_err-s c =
    let p = err_from_is_err_and c.from_residual.result c.from_residual.ensures.1 in
    rw (p.1, p.2) (chosen-none c.in_err-s.ensures)

pub returns : goal.returns
returns c = chosen-told c.in_ok-s.ensures c.made.ensures
