-- `scan::transactions` meets its contract. The invariant: `at` is where transaction u starts, `before` the tasks before it, both small, and
-- the first u transactions have no fault.
use Rattle.std.proofs.Common.{rules, ◌≡◌, Err}
use mathlib.Core.Path.{refl, sym, ◌∙◌}
use Prim.Native.Nat.{◌*◌, ◌≤◌, ◌<◌, zero-le}
use native.Mathlib.Omega.{arith}
use Rattle.table.specs.Sum.{sum}
use Rattle.table.specs.Table.{transactions}
use Rattle.table.specs.Number as numbered
use Rattle.table.specs.Limits.{transactions_most}
use Rattle.refusals.proofs.Findings.{joining, none_first, passes, fails}
use Rattle.row.specs.Row.{table_of}
use Rattle.format.specs.Places.{task_width}
use Rattle.format.specs.Write.{start_of}
use Rattle.format.proofs.Places.{tasks-width}
use Rattle.writer.specs.Scan.{body_fault}
use Rattle.writer.proofs.Scanned.{small, faults, body-parts, transaction-parts, transaction-part}
use Rattle.writer.proofs.Walk.{next-place, next-number}
use Rattle.writer.proofs.scan.transactions.Goals as goal

pub loop-u-init : goal.loop-u-init
unfolding joining start_of numbered.before sum
loop-u-init c = record { few = zero-le; near = omega arith; tasks = refl; starts = refl; none = refl }

pub returns-in_err-transaction : goal.returns-in_err-transaction
returns-in_err-transaction c =
    let row = c.args.row.now in
    let walk = c.loop-u.invariant in
    let there : c.loop-u.u < transactions (table_of row) = omega (arith, c.transactions-count.ensures) in
    let here = rw (walk.tasks, walk.starts) at c.transaction.ensures ∙ transaction-part row there (omega (arith, there, c.requires)) in
    let all : body_fault row ≡ Err c.in_err-transaction.field-0.0 =
    body-parts row ∙ fails (faults (table_of row)) (transactions (table_of row)) c.loop-u.u _ there walk.none (sym here ∙ c.in_err-transaction.was) in
    search rules

pub tasks-tasks-requires : goal.tasks-tasks-requires
tasks-tasks-requires c =
    let few = small _ _ _ _ (none_first _ _ (sym (transaction-parts _ _ _ _) ∙ sym c.transaction.ensures ∙ c.in_ok-transaction.was)) in
    record { modes_cell_bound = few.modes; has_cell_bound = few.tasks; in_all_bound = few.in_all }

pub loop-u-preserved : goal.loop-u-preserved
loop-u-preserved c =
    let row = c.args.row.now in
    let walk = c.loop-u.invariant in
    let t = c.tasks-tasks.result in
    let is = c.tasks-tasks.ensures in
    let there : c.loop-u.u < transactions (table_of row) = omega (arith, c.transactions-count.ensures) in
    let few : c.loop-u.u < transactions_most = omega (arith, there, c.requires) in
    let here = rw (walk.tasks, walk.starts) at c.transaction.ensures ∙ transaction-part row there few in
    let width : t.count * task_width t.modes ≤ 14446 = tasks-width t.count t.modes (omega arith) (omega arith) in
    record {
      few = omega arith;
      near = omega (arith, c.end-at.ensures, width, is.at_value);
      tasks = next-number row c.loop-u.u few there walk.tasks is.count_value;
      starts = c.end-at.ensures ∙ next-place row c.loop-u.u few there walk.starts is.at_value is.count_value is.modes_value;
      none = passes (faults (table_of row)) c.loop-u.u walk.none (sym here ∙ c.in_ok-transaction.was);
    }

pub returns : goal.returns
returns c =
    let row = c.args.row.now in
    let all : c.loop-u.u ≡ transactions (table_of row) = omega (arith, c.transactions-count.ensures) in
    sym (body-parts row ∙ (rw all at c.loop-u.invariant.none))
