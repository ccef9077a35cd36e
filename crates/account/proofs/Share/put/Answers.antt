-- `Share::put` stores the share in the cells of its place, or nothing.
use Rattle.std.proofs.Common.{◌∙◌, sym, arith}
use Rattle.table.specs.Limits.{tasks_most}
use Rattle.account.specs.Account.{shares_cell, share_cells}
use Rattle.account.proofs.Laid.{stored-mid, stored-nowhere}
use Rattle.account.proofs.Share.put.Goals as goal

pub returns-then-j-lt-TASKS : goal.returns-then-j-lt-TASKS
returns-then-j-lt-TASKS c =
    let a = c.args in
    rw (c.copy_from_slice.ensures.after ∙ c.listed.ensures)
    (stored-mid shares_cell tasks_most a.j (share_cells a.self) a.cells.now _ (omega arith) (omega arith) c.if-j-lt-TASKS.true)

pub returns-else-j-lt-TASKS : goal.returns-else-j-lt-TASKS
returns-else-j-lt-TASKS c =
    let a = c.args in
    sym (stored-nowhere shares_cell tasks_most a.j (share_cells a.self) a.cells.now c.if-j-lt-TASKS.false)
