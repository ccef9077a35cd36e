-- The lesser of both, which is at most the evaluations left. Assumes nothing.
use native.Mathlib.Omega.{arith}
use Rattle.cycle.proofs.Fit.{times-le, lesser-rounds}
use Rattle.cycle.proofs.rounds.Goals as goal

pub overflow_cast-result : goal.overflow_cast-result
overflow_cast-result c = omega (arith, times-le c.from-budget.result c.from-each.result)

pub returns : goal.returns
returns c = rw (c.min.ensures, c.times.ensures, c.times-2.ensures, c.from-each.ensures, c.from-budget.ensures) (lesser-rounds _ _ _ _)
