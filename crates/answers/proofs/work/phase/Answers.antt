-- The difference of the remainders of offset and instant, with a period more where it would be below 0, is the phase.
use native.Mathlib.Nat.{mod-lt}
use native.Mathlib.Omega.{arith}
use Rattle.charge.proofs.Phases.{phase-ahead, phase-behind}
use Rattle.answers.proofs.work.phase.Goals as goal

pub overflow_sub-result-else-from-to : goal.overflow_sub-result-else-from-to
overflow_sub-result-else-from-to c = omega (arith, mod-lt c.args.instant c.requires.period_nonzero)

pub overflow_add-result : goal.overflow_add-result
overflow_add-result c =
    omega (arith, mod-lt c.args.instant c.requires.period_nonzero, mod-lt c.args.offset c.requires.period_nonzero)

pub returns-then-from-to : goal.returns-then-from-to
returns-then-from-to c = phase-ahead c.requires.period_nonzero c.args.offset c.args.instant c.if-from-to.true

pub returns-else-from-to : goal.returns-else-from-to
returns-else-from-to c = phase-behind c.requires.period_nonzero c.args.offset c.args.instant c.if-from-to.false
