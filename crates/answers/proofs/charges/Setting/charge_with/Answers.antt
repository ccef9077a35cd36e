-- Held-back sum, whole periods and rests together are the charge, which is far below 2 ^ 64. Assumes nothing.
use mathlib.Core.Path.{sym}
use native.Mathlib.Omega.{arith}
use Rattle.answers.proofs.Readings.{whole_le, charge-at, charge-fits}
use Rattle.answers.proofs.charges.Setting.charge_with.Goals as goal

pub overflow_mul-passed : goal.overflow_mul-passed
overflow_mul-passed c =
    let setting = c.self.invariant.0 in
    let y = c.self.inside in
    rw (c.whole_periods.ensures, c.mode_weight.ensures, ← c.self.view_is)
    (omega (arith, whole_le setting.lent.table.kept setting.split setting.mode y.s.u y.s.a c.args.whole))

pub returns : goal.returns
returns c =
    let setting = c.self.invariant.0 in
    let y = c.self.inside in
    rw (c.held_back.ensures, c.whole_periods.ensures, c.mode_weight.ensures, c.from-rest.ensures, c.requires, ← c.self.view_is)
    (sym (charge-at setting.lent.table.kept setting.split c.args.whole y.s.u y.s.a y.m y.c))

pub overflow_add-result : goal.overflow_add-result
overflow_add-result c =
    let setting = c.self.invariant.0 in
    let y = c.self.inside in
    let all = rw (← c.self.view_is) at (returns c) in
    omega (arith, all, charge-fits setting.lent.table.kept setting.split c.args.whole y.s.u y.s.a y.m y.c setting.mode)

pub overflow_add-result-2 : goal.overflow_add-result-2
overflow_add-result-2 c =
    let setting = c.self.invariant.0 in
    let y = c.self.inside in
    let all = rw (← c.self.view_is) at (returns c) in
    omega (arith, all, charge-fits setting.lent.table.kept setting.split c.args.whole y.s.u y.s.a y.m y.c setting.mode)
