-- Every transaction before i has one task and one mode; one that has not is found.
use Rattle.std.proofs.Common.{◌<◌, sym, subst, arith}
use native.Mathlib.Decide.{ℕ_discrete}
use Rattle.row.specs.Row.{table_of}
use Rattle.row.proofs.Fields.{read-tasks, read-modes}
use Rattle.table.specs.Table.{transactions}
use Rattle.beside.proofs.is_single.Invariants.{OneEach}
use Rattle.beside.proofs.is_single.Goals as goal
use Rattle.beside.proofs.is_single.Goals.{then-tasks-ne1-via-then-tasks-ne1, then-tasks-ne1-via-else-tasks-ne1+then-modes-ne1}

pub loop-i-init : goal.loop-i-init
loop-i-init c = λ j l. absurd (omega arith)

pub returns-then-tasks-ne1 : goal.returns-then-tasks-ne1
returns-then-tasks-ne1 c single =
    let l : c.loop-i.i < transactions (table_of c.args.row.now) = omega (arith, c.transactions-i-end.ensures) in
    elim c.then-tasks-ne1.branch [
      | then-tasks-ne1-via-then-tasks-ne1 w ↦ omega (arith, w.if-tasks-ne1.true, c.tasks.ensures, read-tasks c.requires l, single.one_task _ l)
      | then-tasks-ne1-via-else-tasks-ne1+then-modes-ne1 w ↦ omega (arith, w.if-modes-ne1.true, w.modes.ensures, read-modes c.requires l, single.one_mode _ l)
    ]

pub loop-i-preserved : goal.loop-i-preserved
loop-i-preserved c =
    let tab = table_of c.args.row.now in
    let i = c.loop-i.i in
    let l : i < transactions tab = omega (arith, c.transactions-i-end.ensures) in
    let one : OneEach tab i = (omega (arith, c.if-tasks-ne1.false, c.tasks.ensures, read-tasks c.requires l), omega (arith, c.if-modes-ne1.false, c.modes.ensures, read-modes c.requires l)) in
    λ j h. elim (ℕ_discrete j i) [ yes same ↦ subst (OneEach tab) (sym same) one | no other ↦ c.loop-i.invariant j (omega arith) ]
