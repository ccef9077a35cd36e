-- There is a task at least, so the rests are the sum of one, two or three. Assumes nothing.
use native.Mathlib.Nat.{add-zero}
use native.Mathlib.Omega.{arith}
use Rattle.table.specs.Sum.{sum as sum_of}
use Rattle.answers.proofs.Readings.{rest-needs, rest-first, rests-in, rests-room}
use Rattle.answers.proofs.charges.Setting.few_rests.Goals as goal

pub rest_of-one-requires : goal.rest_of-one-requires
rest_of-one-requires c =
    let setting = c.self.invariant.0 in
    let needs = simp add-zero at (rest-needs setting.lent setting.split setting.subject setting.mode setting.is_task 0 (omega arith)) in
    record { period_bound = needs.period; rest_lt_period = needs.rest; phase_lt_period = needs.passed; weight_bound = needs.light }

pub returns-then-self-eq1 : goal.returns-then-self-eq1
unfolding sum_of
returns-then-self-eq1 c =
    let setting = c.self.invariant.0 in
    rw (← c.self.view_is)
    (omega (
      arith,
      rests-in setting.lent setting.split setting.subject setting.mode setting.is_task c.args.whole 1 (omega arith),
      rest-first setting.lent setting.split setting.subject setting.mode setting.is_task c.args.whole,
      c.rest_of-one.ensures,
    ))

pub rest_of-requires : goal.rest_of-requires
rest_of-requires c =
    let setting = c.self.invariant.0 in
    let needs = rest-needs setting.lent setting.split setting.subject setting.mode setting.is_task 1 (omega arith) in
    record { period_bound = needs.period; rest_lt_period = needs.rest; phase_lt_period = needs.passed; weight_bound = needs.light }

pub overflow_add-two : goal.overflow_add-two
unfolding sum_of
overflow_add-two c =
    let setting = c.self.invariant.0 in
    omega (
      arith,
      rests-room setting.lent setting.split setting.subject setting.mode setting.is_task c.args.whole 1 (omega arith),
      rest-first setting.lent setting.split setting.subject setting.mode setting.is_task c.args.whole,
      c.rest_of-one.ensures,
      c.rest_of.ensures,
    )

pub returns-then-self-eq2 : goal.returns-then-self-eq2
unfolding sum_of
returns-then-self-eq2 c =
    let setting = c.self.invariant.0 in
    rw (← c.self.view_is)
    (omega (
      arith,
      rests-in setting.lent setting.split setting.subject setting.mode setting.is_task c.args.whole 2 (omega arith),
      rest-first setting.lent setting.split setting.subject setting.mode setting.is_task c.args.whole,
      c.rest_of-one.ensures,
      c.rest_of.ensures,
    ))

pub rest_of-requires-2 : goal.rest_of-requires-2
rest_of-requires-2 c =
    let setting = c.self.invariant.0 in
    let needs = rest-needs setting.lent setting.split setting.subject setting.mode setting.is_task 2 (omega arith) in
    record { period_bound = needs.period; rest_lt_period = needs.rest; phase_lt_period = needs.passed; weight_bound = needs.light }

pub overflow_add-result : goal.overflow_add-result
unfolding sum_of
overflow_add-result c =
    let setting = c.self.invariant.0 in
    omega (
      arith,
      rests-room setting.lent setting.split setting.subject setting.mode setting.is_task c.args.whole 2 (omega arith),
      rest-first setting.lent setting.split setting.subject setting.mode setting.is_task c.args.whole,
      c.rest_of-one.ensures,
      c.rest_of.ensures,
      c.rest_of-2.ensures,
    )

pub returns : goal.returns
unfolding sum_of
returns c =
    let setting = c.self.invariant.0 in
    let few = rw (← c.self.view_is) at c.requires in
    rw (← c.self.view_is)
    (omega (
      arith,
      rests-in setting.lent setting.split setting.subject setting.mode setting.is_task c.args.whole 3 (omega arith),
      rest-first setting.lent setting.split setting.subject setting.mode setting.is_task c.args.whole,
      c.rest_of-one.ensures,
      c.rest_of.ensures,
      c.rest_of-2.ensures,
    ))
