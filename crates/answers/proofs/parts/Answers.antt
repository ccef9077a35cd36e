-- `parts` gives a refusal of the image, or what the bound of the task of the table that was read is made of.
use Rattle.std.proofs.Common.{subst}
use Rattle.std.proofs.lemmas.Result.{err_from_is_err_and}
use Rattle.table.specs.Table.{Table}
use Rattle.parts.specs.Parts.{OfImage, OfTask, MadeFor}
use Rattle.answers.proofs.Read.{read-refused, read-accepted, read_table, read-lent}
use Rattle.answers.proofs.parts.Goals as goal

pub parts_from-requires-clause-row_of_table : goal.parts_from-requires-clause-row_of_table
parts_from-requires-clause-row_of_table c =
    (read-lent c.args.image.now _ (read-accepted c.args.image.now c.read_in_front.ensures.value c.in_ok-read_in_front.was) c.read_in_front.ensures.cells_after).0

pub returns-in_err-read_in_front : goal.returns-in_err-read_in_front
returns-in_err-read_in_front c =
    let p = err_from_is_err_and c.from_residual.result c.from_residual.ensures.1 in
    rw (p.1, p.2) (OfImage.refused (read-refused _ c.read_in_front.ensures.value c.in_err-read_in_front.was))

pub returns : goal.returns
returns c =
    let ok = read-accepted c.args.image.now c.read_in_front.ensures.value c.in_ok-read_in_front.was in
    OfImage.accepted ok
    (subst (λ (tab : Table). OfTask (MadeFor c.args.budget) c.args.task tab c.parts_from.result) (read_table _ _ ok c.read_in_front.ensures.cells_after) c.parts_from.ensures)
