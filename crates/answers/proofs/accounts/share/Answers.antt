-- `share` gives phase and held-back jobs as they stand in their cells, and the charge by its weight. All fit, since the charge is at most
-- its transaction's.
use Rattle.std.proofs.Common.{arith}
use Rattle.table.proofs.Ranges.{period-lt}
use Rattle.charge.specs.Split.{whole_periods}
use Rattle.charge.proofs.Ranges.{held-of-lt}
use Rattle.charge.proofs.Weights.{weight-lt}
use Rattle.account.specs.Account.{share_of}
use Rattle.answers.proofs.Accounted.{share-ticks, share-fits}
use Rattle.answers.proofs.Readings.{phase-of-below, periods-lt}
use Rattle.answers.proofs.accounts.share.Goals as goal

pub rest_of-rest-requires-clause-period_bound : goal.rest_of-rest-requires-clause-period_bound
rest_of-rest-requires-clause-period_bound c =
    let setting = c.requires.setting in
    omega (arith, setting.split.period, period-lt setting.lent.table.kept setting.is_task.owner)

pub rest_of-rest-requires-clause-phase_lt_period : goal.rest_of-rest-requires-clause-phase_lt_period
rest_of-rest-requires-clause-phase_lt_period c =
    let setting = c.requires.setting in
    rw c.phase_of-phase.ensures (phase-of-below setting.lent.table.kept setting.split c.args.c c.args.j)

pub rest_of-rest-requires-clause-weight_bound : goal.rest_of-rest-requires-clause-weight_bound
rest_of-rest-requires-clause-weight_bound c =
    let setting = c.requires.setting in
    rw c.weight-weight.ensures (weight-lt setting.lent.table.kept _ _ setting.is_task.owner setting.mode _ c.requires.j_bound)

pub overflow_add-jobs : goal.overflow_add-jobs
unfolding whole_periods
overflow_add-jobs c =
    let setting = c.requires.setting in
    omega (
      arith,
      c.held_of-held.ensures,
      held-of-lt setting.lent.table.kept (record { owner = setting.is_task.owner; place = c.requires.j_bound }) c.args.c,
      c.whole_periods.ensures,
      periods-lt setting.lent.table.kept setting.split,
    )

pub overflow_mul-result : goal.overflow_mul-result
overflow_mul-result c =
    let ticks = share-ticks c.requires.setting c.requires.j_bound _ _ _ _ _ c.phase_of-phase.ensures c.held_of-held.ensures c.whole_periods.ensures c.weight-weight.ensures c.rest_of-rest.ensures in
    rw c.from.ensures (omega (arith, ticks, share-fits c.requires.setting c.requires.j_bound))

pub overflow_add-result : goal.overflow_add-result
overflow_add-result c =
    let ticks = share-ticks c.requires.setting c.requires.j_bound _ _ _ _ _ c.phase_of-phase.ensures c.held_of-held.ensures c.whole_periods.ensures c.weight-weight.ensures c.rest_of-rest.ensures in
    rw (c.from.ensures, c.from-2.ensures) (omega (arith, ticks, share-fits c.requires.setting c.requires.j_bound))

pub returns : goal.returns
unfolding share_of
returns c =
    let ticks = share-ticks c.requires.setting c.requires.j_bound _ _ _ _ _ c.phase_of-phase.ensures c.held_of-held.ensures c.whole_periods.ensures c.weight-weight.ensures c.rest_of-rest.ensures in
    rw (c.from.ensures, c.from-2.ensures) (λ k. record { phase = c.phase_of-phase.ensures k; held = c.held_of-held.ensures k; ticks = ticks k })
