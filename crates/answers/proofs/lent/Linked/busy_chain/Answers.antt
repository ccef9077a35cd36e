-- `chains::busy_chain` meets its contract. The loop's invariant: the chain that is left gives what the whole gives, and t and
-- the mark are from 1 to the horizon. The measure is what is left of the budget.
use Rattle.std.proofs.Common.{sym, ◌∙◌, arith}
use Rattle.analysis.specs.Walk.{beyond?}
use Rattle.analysis.proofs.Charges.{busy-some}
use Rattle.answers.proofs.Chain.{left-all, left-came, left_over, left-on, left-none}
use Rattle.answers.proofs.Cycles.{left-goes}
use Rattle.answers.proofs.lent.Linked.busy_chain.Goals as goal

pub loop-made-init : goal.loop-made-init
loop-made-init c = (left-all _ beyond? 1 c.requires.used_le_budget, omega arith)

pub returns-then-value-t : goal.returns-then-value-t
returns-then-value-t c = left-came _ beyond? c.loop-made.invariant.0 c.loop-made-test.true (sym c.busy-value.ensures ∙ c.if-value-t.true)

pub returns-then-horizon-value : goal.returns-then-horizon-value
returns-then-horizon-value c =
    left_over _ beyond? c.loop-made.invariant.0 c.loop-made-test.true (λ e. c.if-value-t.false (c.busy-value.ensures ∙ e))
    (rw (← c.busy-value.ensures) (omega arith))

pub go_on-next-requires-clause-met_2 : goal.go_on-next-requires-clause-met_2
go_on-next-requires-clause-met_2 c =
    (rw c.busy-value.ensures (busy-some c.requires.instant.kept c.requires.instant.is_task c.requires.instant.setting c.loop-made.invariant.1.0.0), omega arith)

pub loop-made-preserved : goal.loop-made-preserved
loop-made-preserved c =
    let on = left-on _ beyond? c.loop-made.invariant.0 c.busy-value.ensures c.loop-made-test.true c.if-value-t.false (λ o. omega arith) in
    let goes = c.go_on-next.ensures in
    (left-goes on goes, (goes.met, goes.mark))

pub returns : goal.returns
returns c = left-none _ beyond? c.loop-made.invariant.0 c.loop-made-test.false
