-- The held-back sum and a period more than the whole ones are far below 2 ^ 64. Assumes nothing.
use mathlib.Core.Path.{refl}
use native.Mathlib.Omega.{arith}
use Rattle.charge.specs.Split.{charge_cap}
use Rattle.charge.proofs.Weights.{held-back-le}
use Rattle.answers.proofs.Readings.{periods-lt, passed-le}
use Rattle.answers.proofs.charges.Setting.charge_cap.Goals as goal

pub overflow_add-result : goal.overflow_add-result
overflow_add-result c =
    let setting = c.self.invariant.0 in
    omega (arith, periods-lt setting.lent.table.kept setting.split)

pub overflow_mul-result : goal.overflow_mul-result
overflow_mul-result c =
    let setting = c.self.invariant.0 in
    let y = c.self.inside in
    rw (c.mode_weight.ensures, ← c.self.view_is)
    (omega (arith, passed-le setting.lent.table.kept setting.split setting.mode y.s.u y.s.a))

pub overflow_add-result-2 : goal.overflow_add-result-2
overflow_add-result-2 c =
    let setting = c.self.invariant.0 in
    let kept = setting.lent.table.kept in
    let y = c.self.inside in
    rw (c.held_back.ensures, c.mode_weight.ensures, ← c.self.view_is)
    (omega (arith, passed-le kept setting.split setting.mode y.s.u y.s.a, held-back-le kept y.s.u y.s.a setting.is_task.owner setting.mode y.c))

pub returns : goal.returns
unfolding charge_cap
returns c = rw (c.held_back.ensures, c.mode_weight.ensures, ← c.self.view_is) refl
