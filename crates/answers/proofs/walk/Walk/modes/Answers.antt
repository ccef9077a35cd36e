-- `Walk::modes` meets its contract. The loop's invariant: what is left of the modes gives what all of them give.
use Rattle.std.proofs.Common.{◌≡◌, refl, subst, ◌-◌, arith}
use Rattle.std.proofs.lemmas.Result.{err_from_is_err_and}
use Rattle.table.specs.Table.{modes}
use Rattle.periods.specs.Charge.{imposed}
use Rattle.analysis.specs.Order.{walk_order, running_modes}
use Rattle.answers.specs.Analysed.{Analysed}
use Rattle.answers.proofs.Walks.{going_on, going-stops, going-ends, modes-next, modes-none}
use Rattle.answers.proofs.walk.Walk.modes.Goals as goal

pub loop-m-init : goal.loop-m-init
unfolding walk_order running_modes
loop-m-init c =
    let all : c.modes-count.result - 0 ≡ modes c.args.cells.now.tab c.args.cells.now.u = omega (arith, subst (λ (v : Analysed). c.modes-count.result ≡ modes v.tab v.u) c.cells.view_is c.modes-count.ensures) in
    record { within = c.requires.used_le_budget; same = rw all refl }

pub returns-in_err-state : goal.returns-in_err-state
returns-in_err-state c =
    let p = err_from_is_err_and c.from_residual.result c.from_residual.ensures.1 in
    rw (p.1, p.2) (going-stops c.loop-m.invariant (modes-next imposed _ _ _ _ _ c.loop-m-test.true) c.mode.ensures c.in_err-state.was)

pub loop-m-preserved : goal.loop-m-preserved
loop-m-preserved c =
    going_on c.loop-m.invariant (modes-next imposed _ _ _ _ _ c.loop-m-test.true) c.mode.ensures c.in_ok-state.was

pub returns : goal.returns
returns c = going-ends c.loop-m.invariant (modes-none imposed _ _ _ _ _ c.loop-m-test.false)
