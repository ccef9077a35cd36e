-- 33 where k is 0 or t above H, else the approximation.
use Rattle.std.proofs.Common.{inl, inr, arith}
use Rattle.beside.specs.Told.{ApproximatesFrom}
use Rattle.beside.proofs.approximation_of.Goals as goal
use Rattle.beside.proofs.approximation_of.Goals.{then-k-eq0-via-then-k-eq0, then-k-eq0-via-else-k-eq0+then-horizon-t}

pub returns-then-k-eq0 : goal.returns-then-k-eq0
returns-then-k-eq0 c =
    ApproximatesFrom.outside
    (elim c.then-k-eq0.branch [
      | then-k-eq0-via-then-k-eq0 w ↦ inl w.if-k-eq0.true
      | then-k-eq0-via-else-k-eq0+then-horizon-t w ↦ inr (omega (arith, w.if-horizon-t.true, w.horizon.ensures))
    ])

pub returns : goal.returns
returns c =
    rw c.approximate.ensures (ApproximatesFrom.given (omega (arith, c.if-k-eq0.false)) (omega (arith, c.if-horizon-t.false, c.horizon.ensures)))
