-- Of what jobs impose, one period fewer is whole. Assumes nothing.
use mathlib.Core.Path.{refl}
use native.Mathlib.Omega.{arith}
use Rattle.charge.specs.Split.{whole_periods}
use Rattle.answers.proofs.charges.Split.whole_periods.Goals as goal

pub returns-then-whole : goal.returns-then-whole
unfolding whole_periods
returns-then-whole c = rw c.if-whole.true refl

pub returns : goal.returns
unfolding whole_periods
returns c = rw c.if-whole.false (omega arith)
