-- A setting whose most is not above the best is not greater. Assumes nothing.
use native.Mathlib.Omega.{arith}
use Rattle.answers.proofs.Readings.{charge-at-most}
use Rattle.answers.proofs.charges.Setting.charge_from.Goals as goal

pub returns-then-charge_cap-best : goal.returns-then-charge_cap-best
returns-then-charge_cap-best c =
    let setting = c.self.invariant.0 in
    let y = c.self.inside in
    let cap = rw (← c.self.view_is) at c.charge_cap.ensures in
    rw (← c.self.view_is)
    (omega (arith, cap, charge-at-most setting.lent.table.kept setting.split c.args.whole y.s.u y.s.a y.m y.c))
