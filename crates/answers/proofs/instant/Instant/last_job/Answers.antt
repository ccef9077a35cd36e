-- By t there are as many jobs as t − F holds periods, rounded up, and none where t is not past F.
use Rattle.std.proofs.Common.{◌∙◌, ◌-◌, ap, arith, pos}
use Rattle.std.proofs.Math.Nat.{div-le_self}
use Rattle.periods.proofs.Charge.{ceiling-is}
use Rattle.answers.proofs.Signed.{unsigned, div_ceil-is}
use Rattle.answers.proofs.instant.Instant.last_job.Goals as goal

pub returns : goal.returns
returns c =
    let x = c.args.self in
    let s = c.args.t.0 - x.phase.0 in
    rw (ceiling-is x.period.0 c.args.t.0 x.phase.0 (omega arith), c.div_ceil.ensures, c.saturating_sub.ensures)
    (unsigned _ (omega (arith, div-le_self s x.period.0)) ∙ ap pos (div_ceil-is s x.period.0 (omega arith)))
