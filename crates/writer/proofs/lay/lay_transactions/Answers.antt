-- `lay::lay_transactions` meets its contract. The invariant: the first u transactions are put, and `at` is where the next one starts.
use mathlib.Core.Path.{◌≡◌, refl, ◌∙◌}
use Prim.Native.Nat.{◌+◌, ◌<◌}
use native.Mathlib.Omega.{arith}
use Rattle.bits.specs.Put.{bits_put}
use Rattle.table.specs.Sum.{sum}
use Rattle.table.specs.Lists.{joined}
use Rattle.table.specs.Table.{transactions}
use Rattle.row.specs.Row.{modes_cell, has_cell, tasks_before, table_of}
use Rattle.row.proofs.Readers.{head-cell}
use Rattle.format.specs.Write.{start_of}
use Rattle.writer.proofs.Laid.{few, near, transaction-laid, transactions-laid}
use Rattle.writer.proofs.Walk.{next-place, next-said}
use Rattle.writer.proofs.lay.lay_transactions.Goals as goal

pub loop-u-init : goal.loop-u-init
unfolding start_of tasks_before sum joined bits_put
loop-u-init c = record { tasks = refl; starts = refl; near = omega arith; laid = refl }

pub invariant_of-t : goal.invariant_of-t
invariant_of-t c =
    let walk = c.loop-u.invariant in
    let here = few c.args.row.now c.requires c.loop-u.u (omega (arith, c.transactions-count.ensures)) in
    record { number_bound = here.transactions; before_bound = omega (arith, here, walk.tasks); at_bound = omega arith }

pub tasks-tasks-requires : goal.tasks-tasks-requires
tasks-tasks-requires c =
    let walk = c.loop-u.invariant in
    let here = few c.args.row.now c.requires c.loop-u.u (omega (arith, c.transactions-count.ensures)) in
    record { modes_cell_bound = here.modes; has_cell_bound = here.tasks; in_all_bound = rw walk.tasks here.in_all }

pub loop-u-preserved : goal.loop-u-preserved
loop-u-preserved c =
    let row = c.args.row.now in
    let u = c.loop-u.u in
    let walk = c.loop-u.invariant in
    let is = c.tasks-tasks.ensures in
    let there : u < transactions (table_of row) = omega (arith, c.transactions-count.ensures) in
    let here = few row c.requires u there in
    let starts = c.end-at.ensures ∙ next-place row u here.transactions there walk.starts is.at_value is.count_value is.modes_value in
    let modes = is.modes_value ∙ head-cell row u modes_cell here.transactions in
    let count = is.count_value ∙ head-cell row u has_cell here.transactions in
    record {
      tasks = next-said row u here.transactions c.requires walk.tasks is.count_value;
      starts = starts;
      near = omega (arith, starts, near row c.requires (u + 1) (omega arith), c.requires.few_transactions);
      laid =
          c.lay_tasks.ensures
          ∙ rw (c.lay_head.ensures, is.row_value, is.first_value, is.at_value, modes, count, transaction-laid row _ c.loop-u.at u c.loop-u.before walk.tasks, walk.laid, walk.starts)
          (transactions-laid row c.requires c.args.buffer.now u there);
    }

pub returns : goal.returns
returns c =
    let past : c.loop-u.u ≡ transactions (table_of c.args.row.now) = omega (arith, c.transactions-count.ensures) in
    rw (← past) c.loop-u.invariant.laid
