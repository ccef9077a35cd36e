-- `TaskCells::put` stores the cells of one task, each inside what was lent, or none.
use Rattle.std.proofs.Common.{◌≤◌, ◌*◌, ◌∙◌, suc, length, sym, arith}
use Rattle.told.specs.Cells.{cells_of_task, listed}
use Rattle.told.specs.Answered.{cells_meant}
use Rattle.told.proofs.Cells.{length-listed, mid-sets, stored_there, stored-nowhere}
use Rattle.told.proofs.TaskCells.put.Goals as goal

pub returns-then-k-cells : goal.returns-then-k-cells
returns-then-k-cells c =
    let x = c.args in
    let own = cells_meant x.self in
    let there : cells_of_task * suc x.k ≤ length x.cells.now = omega (arith, c.if-k-cells.true) in
    rw (c.copy_from_slice.ensures.after ∙ c.listed.ensures)
    (mid-sets (cells_of_task * x.k) _ x.cells.now (listed own) (length-listed own ∙ omega arith) (omega arith)
    ∙ sym (stored_there x.cells.now x.k own there))

pub returns-else-k-cells : goal.returns-else-k-cells
returns-else-k-cells c =
    let x = c.args in
    sym (stored-nowhere x.cells.now x.k (cells_meant x.self) (omega (arith, c.if-k-cells.false)))
