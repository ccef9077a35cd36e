-- The loop sums the rests of the tasks before j, by their cells. Assumes nothing.
use mathlib.Core.Path.{refl, ◌∙◌}
use native.Mathlib.Omega.{arith}
use Rattle.table.specs.Sum.{sum as sum_of}
use Rattle.table.proofs.Sum.{sum-next}
use Rattle.answers.proofs.Readings.{rest-needs, rests-in, rests-room}
use Rattle.answers.proofs.charges.Setting.rests.Goals as goal

pub loop-j-init : goal.loop-j-init
unfolding sum_of
loop-j-init c = refl

pub rest_of-sum-requires : goal.rest_of-sum-requires
rest_of-sum-requires c =
    let setting = c.self.invariant.0 in
    let needs = rest-needs setting.lent setting.split setting.subject setting.mode setting.is_task c.loop-j.j (omega arith) in
    record { period_bound = needs.period; rest_lt_period = needs.rest; phase_lt_period = needs.passed; weight_bound = needs.light }

pub overflow_add-sum : goal.overflow_add-sum
overflow_add-sum c =
    let setting = c.self.invariant.0 in
    omega (
      arith,
      rests-room setting.lent setting.split setting.subject setting.mode setting.is_task c.args.whole c.loop-j.j (omega arith),
      c.rest_of-sum.ensures,
    )

pub loop-j-preserved : goal.loop-j-preserved
loop-j-preserved c = rw sum-next (omega (arith, c.rest_of-sum.ensures))

pub returns : goal.returns
returns c =
    let setting = c.self.invariant.0 in
    rw (← c.self.view_is)
    (c.loop-j.invariant ∙ rests-in setting.lent setting.split setting.subject setting.mode setting.is_task c.args.whole c.loop-j.j (omega arith))
