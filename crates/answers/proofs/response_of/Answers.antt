-- `response_of` gives the code and the bound of the task, or 13 where the table has no task of that number.
use mathlib.Core.Path.{sym, subst₂}
use Prim.Native.Nat.{ℕ}
use native.Mathlib.Omega.{arith}
use Rattle.table.specs.Table.{Table}
use Rattle.told.specs.Told.{RespondsFrom}
use Rattle.answers.proofs.response_of.Goals as goal

pub task_cells-c-requires : goal.task_cells-c-requires
task_cells-c-requires c =
    let p = c in
    let t = p in
    let lent = p.prepare.ensures.lent in let table = p.prepare.ensures.work_unchanged in record { lent = lent; k_bound = rw table (omega (arith, t.if-task-in_all.true, t.in_all.ensures)) }

pub returns-then-task-in_all : goal.returns-then-task-in_all
returns-then-task-in_all c =
    let t = c in
    let p = t in
    let a = p.args in
    subst₂ (λ (tab : Table) (r : ℕ). RespondsFrom tab a.task a.budget r) p.prepare.ensures.work_unchanged (sym c.pair.ensures)
    (RespondsFrom.told t.task_cells-c.ensures.owed_at)

pub returns : goal.returns
returns c =
    let n = c in
    rw (c.pair-2.ensures, n.number.ensures) (RespondsFrom.unknown (omega (arith, n.if-task-in_all.false, n.in_all.ensures)))
