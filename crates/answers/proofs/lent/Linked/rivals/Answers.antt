-- The loop sums what the other transactions before i charge: i is the next of them that has a rival. With the charge of u
-- the sum stays far below 2 ^ 64. Assumes nothing.
use mathlib.Core.Path.{◌≡◌}
use Prim.Native.Nat.{◌+◌}
use native.Mathlib.Omega.{arith}
use Rattle.row.specs.Row.{table_of}
use Rattle.table.specs.Table.{transactions}
use Rattle.analysis.specs.Charge.{others, rivals}
use Rattle.charge.proofs.Ranges.{rivals-le}
use Rattle.charge.proofs.Along.{others-first, others-few, others-next}
use Rattle.answers.proofs.Readings.{setting-in}
use Rattle.answers.proofs.lent.Linked.rivals.Goals as goal

pub loop-i-init : goal.loop-i-init
loop-i-init c = others-first c.args.whole c.args.t.0 (c.self.invariant.1.others 0 (omega arith))

pub overflow_add-sum : goal.overflow_add-sum
overflow_add-sum c =
    let few = others-few c.args.whole c.args.t.0 c.loop-i.invariant c.self.invariant.0.table.kept c.requires.t_le_horizon in
    let charged = rw (← c.self.view_is) at c.greatest-sum.ensures in
    omega (arith, few (omega arith), charged)

pub loop-i-preserved : goal.loop-i-preserved
loop-i-preserved c =
    let charged = rw (← c.self.view_is) at c.greatest-sum.ensures in
    rw charged
    (others-next c.args.whole c.args.t.0 c.loop-i.invariant (c.self.invariant.1.others (c.loop-i.i + 1) (omega arith)))

pub invariant_of-own : goal.invariant_of-own
invariant_of-own c =
    setting-in c.self.invariant.0 c.self.invariant.1 (rw (← c.self.view_is) at c.requires.task)
    (rw (← c.self.view_is) at c.requires.m_bound)
    c.split_of.ensures.is_split

pub returns : goal.returns
unfolding rivals others
returns c =
    let charges = c.loop-i.invariant in
    let charged = c.charge.ensures in
    let at = c.split_of.ensures.at in
    let all : c.loop-i.i ≡ transactions (table_of c.self.inside.work.now) = omega (arith, charges.within) in
    rw (← c.self.view_is) (cc charges.sum)

pub overflow_add-result : goal.overflow_add-result
overflow_add-result c =
    let y = c.self.inside in
    let task = rw (← c.self.view_is) at c.requires.task in
    let mode = rw (← c.self.view_is) at c.requires.m_bound in
    let all = rw (← c.self.view_is) at (returns c) in
    omega (arith, all, rivals-le c.self.invariant.0.table.kept c.args.whole c.requires.t_le_horizon y.s.u y.s.a task.owner mode c.args.c)
