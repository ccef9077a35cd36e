-- The jobs of one major frame, each with the greatest load. Assumes nothing.
use mathlib.Core.Path.{ap}
use native.Mathlib.Omega.{arith}
use Rattle.table.proofs.Ranges.{kept-period}
use Rattle.charge.proofs.Loads.{share-le}
use Rattle.answers.specs.Analysed.{Analysed}
use Rattle.answers.proofs.Readings.{kept-of}
use Rattle.answers.proofs.lent.Linked.share.Goals as goal

pub nonzero_div-result : goal.nonzero_div-result
nonzero_div-result c =
    omega (arith, kept-period c.self.invariant.0.table.kept (rw (← c.self.view_is) at c.requires))

pub overflow_mul-result : goal.overflow_mul-result
overflow_mul-result c =
    let v = c.args.self.now in
    let e = ap (λ (v : Analysed). v.tab) c.self.view_is in
    let frame = rw e at c.frame.ensures in
    let period = rw e at c.period.ensures in
    rw (frame, period, c.most_load.ensures) (omega (arith, share-le (kept-of c.self.invariant.0 e) v.u v.a c.args.i c.requires))
