-- The loop sums the times of the urgent tasks before j, which stay within the greatest load. Assumes nothing.
use mathlib.Core.Path.{◌≡◌, refl, ap}
use native.Mathlib.Omega.{arith}
use Rattle.table.specs.Sum.{sum as sum_of}
use Rattle.table.proofs.Sum.{sum-next}
use Rattle.table.specs.Table.{tasks}
use Rattle.analysis.specs.Overload.{load}
use Rattle.charge.proofs.Loads.{load-room}
use Rattle.answers.specs.Analysed.{Analysed}
use Rattle.answers.proofs.Readings.{kept-of}
use Rattle.answers.proofs.lent.Linked.load.Goals as goal

pub loop-j-init : goal.loop-j-init
unfolding sum_of
loop-j-init c = refl

pub overflow_add-sum : goal.overflow_add-sum
overflow_add-sum c =
    let v = c.args.self.now in
    let e = ap (λ (v : Analysed). v.tab) c.self.view_is in
    let count = rw e at c.tasks-count.ensures in
    omega (arith, load-room (kept-of c.self.invariant.0 e) v.u v.a c.requires.i_bound c.requires.m_bound c.loop-j.j (omega arith))

pub loop-j-preserved : goal.loop-j-preserved
loop-j-preserved c = rw sum-next (omega arith)

pub returns : goal.returns
unfolding load
returns c =
    let count = rw (ap (λ (v : Analysed). v.tab) c.self.view_is) at c.tasks-count.ensures in
    let all : c.loop-j.j ≡ tasks c.args.self.now.tab c.args.i = omega arith in
    cc
