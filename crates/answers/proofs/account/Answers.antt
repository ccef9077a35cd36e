-- `account` gives a refusal of the image and leaves the cells, or tells all of the task of the table that was read.
use Rattle.std.proofs.Common.{refl, subst}
use Rattle.std.proofs.lemmas.Result.{err_from_is_err_and}
use Rattle.table.specs.Table.{Table}
use Rattle.parts.specs.Parts.{OfImage, OfTask}
use Rattle.account.specs.Account.{AccountFor, with_cells}
use Rattle.answers.proofs.Read.{read-refused, read-accepted, read_table, read-lent}
use Rattle.answers.proofs.account.Goals as goal

pub account_from-requires-clause-row_of_table : goal.account_from-requires-clause-row_of_table
account_from-requires-clause-row_of_table c =
    (read-lent c.args.image.now _ (read-accepted c.args.image.now c.read_in_front.ensures.value c.in_ok-read_in_front.was) c.read_in_front.ensures.cells_after).0

pub returns-in_err-read_in_front : goal.returns-in_err-read_in_front
returns-in_err-read_in_front c =
    let p = err_from_is_err_and c.from_residual.result c.from_residual.ensures.1 in
    rw (p.1, p.2) (record { told = OfImage.refused (read-refused _ c.read_in_front.ensures.value c.in_err-read_in_front.was); stays = refl })

pub returns : goal.returns
returns c =
    let ok = read-accepted c.args.image.now c.read_in_front.ensures.value c.in_ok-read_in_front.was in
    record {
      told =
          OfImage.accepted ok
          (subst (λ (tab : Table). OfTask (AccountFor c.args.budget c.args.cells.now) c.args.task tab (with_cells c.account_from.new.cells c.account_from.result)) (read_table _ _ ok c.read_in_front.ensures.cells_after) c.account_from.ensures.told);
      stays = c.account_from.ensures.stays;
    }
