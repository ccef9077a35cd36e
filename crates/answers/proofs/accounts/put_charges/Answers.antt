-- `put_charges` stores what each transaction charges, one after the other. The invariant: the groups of those before i are laid.
use Rattle.std.proofs.Common.{◌≡◌, ◌∙◌, ℕ, List, ◌<◌, arith}
use mathlib.Core.Path.{ap₂}
use Rattle.row.specs.Row.{table_of}
use Rattle.table.specs.Table.{transactions}
use Rattle.table.specs.Limits.{transactions_most}
use Rattle.parts.specs.declared.Part.{Part}
use Rattle.account.specs.Account.{charges_cell, charge_cells, stored}
use Rattle.account.proofs.Laid.{laid_none, laid_next}
use Rattle.account.proofs.Lays.{charge-one}
use Rattle.answers.proofs.accounts.put_charges.Goals as goal

pub loop-i-init : goal.loop-i-init
loop-i-init c = laid_none charges_cell _ c.args.cells.now

pub loop-i-preserved : goal.loop-i-preserved
loop-i-preserved c =
    let tab = table_of c.args.work.now in
    let there : c.loop-i.i < transactions tab = omega (arith, c.loop-i-test.true, c.transactions-count.ensures) in
    c.put_charge.ensures
    ∙ ap₂ (λ (r : Part) (cells : List ℕ). stored charges_cell transactions_most c.loop-i.i (charge_cells r) cells)
    (charge-one tab c.args.s.u c.args.s.a c.args.t c.loop-i.i there c.requires.subject.chosen.is_task c.charged.ensures)
    c.loop-i.invariant
    ∙ laid_next charges_cell _ c.args.cells.now transactions_most c.loop-i.i (omega (arith, there, c.requires.lent.table.kept.few_transactions))

pub returns : goal.returns
returns c =
    let all : c.loop-i.i ≡ transactions (table_of c.args.work.now) = omega (arith, c.loop-i-test.false, c.loop-i.auto.i-end, c.transactions-count.ensures) in
    rw (← all) c.loop-i.invariant
