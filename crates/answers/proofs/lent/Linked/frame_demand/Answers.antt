-- The loop sums what the transactions before i demand in one major frame. Assumes nothing.
use mathlib.Core.Path.{◌≡◌, refl, ap}
use native.Mathlib.Omega.{arith}
use Rattle.table.specs.Sum.{sum as sum_of}
use Rattle.table.proofs.Sum.{sum-next}
use Rattle.table.specs.Table.{transactions}
use Rattle.analysis.specs.Overload.{frame_demand}
use Rattle.charge.proofs.Loads.{demand-room}
use Rattle.answers.specs.Analysed.{Analysed}
use Rattle.answers.proofs.Readings.{kept-of}
use Rattle.answers.proofs.lent.Linked.frame_demand.Goals as goal

pub loop-i-init : goal.loop-i-init
unfolding sum_of
loop-i-init c = refl

pub overflow_add-sum : goal.overflow_add-sum
overflow_add-sum c =
    let v = c.args.self.now in
    let e = ap (λ (v : Analysed). v.tab) c.self.view_is in
    let count = rw e at c.transactions-count.ensures in
    omega (arith, demand-room (kept-of c.self.invariant.0 e) v.u v.a c.loop-i.i (omega arith))

pub loop-i-preserved : goal.loop-i-preserved
loop-i-preserved c = rw sum-next (omega arith)

pub returns : goal.returns
unfolding frame_demand
returns c =
    let count = rw (ap (λ (v : Analysed). v.tab) c.self.view_is) at c.transactions-count.ensures in
    let all : c.loop-i.i ≡ transactions c.args.self.now.tab = omega arith in
    cc
