-- `TaskCells::all_kept` meets its contract. The invariant: the tasks before k are kept.
use Rattle.std.proofs.Common.{◌≡◌, refl, sym, ◌+◌, ◌*◌, get_or, add-one, arith}
use Rattle.told.specs.Cells.{cells_of_task, are_kept}
use Rattle.told.proofs.Verdict.{kept_here, no_cells, other-code, kept_next, not-kept}
use Rattle.told.proofs.TaskCells.all_kept.Goals as goal

pub loop-k-init : goal.loop-k-init
unfolding are_kept
loop-k-init c = refl

pub returns-then-cells-k : goal.returns-then-cells-k
returns-then-cells-k c =
    let x = c.args in
    let k = c.loop-k.k in
    sym (not-kept x.cells.now k x.tasks (omega arith) (no_cells x.cells.now k (omega (arith, c.if-cells-k.true))))

pub returns-then-code-ne-KEPT : goal.returns-then-code-ne-KEPT
returns-then-code-ne-KEPT c =
    let x = c.args in
    let k = c.loop-k.k in
    let there : cells_of_task * k + 0 ≡ cells_of_task * k = omega arith in
    let other : ¬ (get_or x.cells.now (cells_of_task * k) 0 ≡ 0) = rw (← there) (λ e. omega (arith, c.if-code-ne-KEPT.true, e)) in
    sym (not-kept x.cells.now k x.tasks (omega arith) (other-code x.cells.now k (omega arith) other))

pub loop-k-preserved : goal.loop-k-preserved
loop-k-preserved c =
    let x = c.args in
    let k = c.loop-k.k in
    let there : cells_of_task * k + 0 ≡ cells_of_task * k = omega arith in
    let code : get_or x.cells.now (cells_of_task * k) 0 ≡ 0 = rw (← there) (omega (arith, c.if-code-ne-KEPT.false)) in
    let this = kept_here x.cells.now k (omega arith) code in
    rw add-one (kept_next x.cells.now k c.loop-k.invariant this)
