-- `chains::job_chain` meets its contract. The loop's invariant: the chain that is left gives what the whole gives, and t has
-- not passed the t that meets the job's demand. The measure is what is left of the budget.
use Rattle.std.proofs.Common.{sym, ◌∙◌, arith}
use Rattle.analysis.specs.Walk.{never?}
use Rattle.answers.proofs.Chain.{left-all, left-came, left-on, left-none}
use Rattle.answers.proofs.Instants.{instant-start, reaches-start, reaches-on}
use Rattle.answers.proofs.lent.Linked.job_chain.Goals as goal

pub loop-made-init : goal.loop-made-init
loop-made-init c =
    let kept = c.requires.instant.kept in
    let is_task = c.requires.instant.is_task in
    rw (c.start-t.ensures ∙ instant-start kept is_task c.requires.instant c.args.p.number)
    (left-all _ never? _ c.requires.used_le_budget, λ r. reaches-start kept is_task r)

pub demand-value-requires-clause-t_le_horizon : goal.demand-value-requires-clause-t_le_horizon
demand-value-requires-clause-t_le_horizon c =
    let reaches = c.requires.reaches in
    omega (arith, c.loop-made.invariant.1 reaches, reaches.within)

pub returns-then-value-t : goal.returns-then-value-t
returns-then-value-t c = left-came _ never? c.loop-made.invariant.0 c.loop-made-test.true (sym c.demand-value.ensures ∙ c.if-value-t.true)

pub loop-made-preserved : goal.loop-made-preserved
loop-made-preserved c =
    let inv = c.loop-made.invariant in
    let value = c.demand-value.ensures in (
      left-on _ never? inv.0 value c.loop-made-test.true c.if-value-t.false (λ o. o),
      λ r. rw value (reaches-on c.requires.instant.kept c.requires.instant.is_task r c.loop-made.t.0 (inv.1 r)),
    )

pub returns : goal.returns
returns c = left-none _ never? c.loop-made.invariant.0 c.loop-made-test.false
