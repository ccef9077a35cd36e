-- `cells` gives a refusal and leaves the row, or fills it from the table that was read.
use Rattle.std.proofs.Common.{refl, subst}
use Rattle.std.proofs.lemmas.Result.{err_from_is_err_and}
use Rattle.table.specs.Table.{Table}
use Rattle.told.specs.Told.{FillsFrom, Fills}
use Rattle.answers.proofs.Read.{read-refused, read-accepted, read_table, read-lent}
use Rattle.answers.proofs.cells.Goals as goal

pub fill-requires-clause-row_of_table : goal.fill-requires-clause-row_of_table
fill-requires-clause-row_of_table c =
    (read-lent c.args.image.now _ (read-accepted c.args.image.now c.read_in_front.ensures.value c.in_ok-read_in_front.was) c.read_in_front.ensures.cells_after).0

pub returns-in_err-read_in_front : goal.returns-in_err-read_in_front
returns-in_err-read_in_front c =
    let p = err_from_is_err_and c.from_residual.result c.from_residual.ensures.1 in
    rw (p.1, p.2) (Fills.refused (read-refused _ c.read_in_front.ensures.value c.in_err-read_in_front.was) refl)

pub returns : goal.returns
returns c =
    let ok = read-accepted c.args.image.now c.read_in_front.ensures.value c.in_ok-read_in_front.was in
    Fills.accepted ok
    (subst (λ (tab : Table). FillsFrom tab c.args.budget c.args.cells.now c.fill.new.cells c.fill.result) (read_table _ _ ok c.read_in_front.ensures.cells_after) c.fill.ensures)
