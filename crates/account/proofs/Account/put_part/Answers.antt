-- `Account::put_part` stores a charge in the cells of its transaction; a transaction that charges nothing has none to store.
use Rattle.std.proofs.Common.{◌∙◌, sym, arith}
use Rattle.table.specs.Limits.{transactions_most}
use Rattle.account.specs.Account.{charges_cell, charge_cells}
use Rattle.parts.specs.Parts.{charge_listed}
use Rattle.account.proofs.Laid.{stored_there, stored-mid, stored-nowhere, no-charge}
use Rattle.account.proofs.Account.put_part.Goals as goal

pub returns-in_default : goal.returns-in_default
returns-in_default c =
    let a = c.args in
    sym (rw (stored_there charges_cell transactions_most a.i (charge_cells a.part) a.cells.now (omega arith), no-charge a.part c.in_default.not-Charged))

pub returns-in-Charged : goal.returns-in-Charged
returns-in-Charged c =
    let a = c.args in
    let x = c.in-Charged in
    rw (c.copy_from_slice.ensures.after ∙ c.listed.ensures, x.is)
    (stored-mid charges_cell transactions_most a.i (charge_listed x.charge) a.cells.now _ (omega arith) (omega arith) (omega arith))

pub returns-else-i-lt-TRANSACTIONS : goal.returns-else-i-lt-TRANSACTIONS
returns-else-i-lt-TRANSACTIONS c =
    let a = c.args in
    sym (stored-nowhere charges_cell transactions_most a.i (charge_cells a.part) a.cells.now c.if-i-lt-TRANSACTIONS.false)
