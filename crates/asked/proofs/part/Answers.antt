-- `part` is what the transaction charges at the completion, where there are parts; else it says why there are none.
use Rattle.std.proofs.lemmas.Result.{err_from_is_err_and}
use Rattle.parts.proofs.Composed.{part-refused, part_none, part-charged}
use Rattle.asked.proofs.part.Goals as goal

pub returns-in_err-parts : goal.returns-in_err-parts
returns-in_err-parts c =
    let p = err_from_is_err_and c.from_residual.result c.from_residual.ensures.1 in
    rw (p.1, p.2) (part-refused c.in_err-parts.ensures)

pub returns-in_default : goal.returns-in_default
returns-in_default c = part_none (rw c.in_default.is at c.in_ok-parts.ensures)

pub returns : goal.returns
returns c = part-charged (rw c.in-Some.is at c.in_ok-parts.ensures) c.charge.ensures
