-- Each number of the instant is what its callee reads, and within its bound.
use Rattle.std.proofs.Common.{◌≡◌, refl, sym, subst, ap, ◌∙◌, ℕ, pos, ◌-ℤ◌, arith}
use Rattle.analysis.specs.Bound.{Setting, first_job}
use Rattle.charge.proofs.Ranges.{held-of-lt}
use Rattle.table.proofs.Ranges.{offset-lt, period-lt, time-lt}
use Rattle.answers.specs.Analysed.{Analysed}
use Rattle.answers.specs.declared.instant.Instant.{Instant}
use Rattle.answers.specs.Turn.{IsInstant}
use Rattle.answers.proofs.Instants.{blocking-lt, phase-period}
use Rattle.answers.proofs.instant.Instant.of.Goals as goal

-- what holds of the cells' table and task holds of those that are seen
at-view : {v w : Analysed} {m c : ℕ} {x : Instant} → v ≡ w → IsInstant v.tab v.u v.a m c x → IsInstant w.tab w.u w.a m c x
at-view {m = m} {c = c} {x = x} e h = subst (λ (y : Analysed). IsInstant y.tab y.u y.a m c x) e h

pub phase_of-requires-clause-task : goal.phase_of-requires-clause-task
phase_of-requires-clause-task c =
    let setting = subst (λ (v : Analysed). Setting v.tab v.u v.a c.args.m c.args.c) (sym c.cells.view_is) c.requires in
    record { owner = c.cells.invariant.1.chosen.is_task.owner; place = setting.place }

pub held_of-requires-clause-task : goal.held_of-requires-clause-task
held_of-requires-clause-task c =
    let setting = subst (λ (v : Analysed). Setting v.tab v.u v.a c.args.m c.args.c) (sym c.cells.view_is) c.requires in
    record { owner = c.cells.invariant.1.chosen.is_task.owner; place = setting.place }

pub time-requires-clause-m_bound : goal.time-requires-clause-m_bound
time-requires-clause-m_bound c = (subst (λ (v : Analysed). Setting v.tab v.u v.a c.args.m c.args.c) (sym c.cells.view_is) c.requires).mode

pub first_job-requires : goal.first_job-requires
first_job-requires c = omega (arith, c.held_of.ensures, held-of-lt c.cells.invariant.0.table.kept c.cells.invariant.1.chosen.is_task c.args.c)

pub invariant_of-result : goal.invariant_of-result
invariant_of-result c =
    let kept = c.cells.invariant.0.table.kept in
    let is_task = c.cells.invariant.1.chosen.is_task in
    let setting = subst (λ (v : Analysed). Setting v.tab v.u v.a c.args.m c.args.c) (sym c.cells.view_is) c.requires in
    record {
      period_bound = rw c.period.ensures (period-lt kept is_task.owner);
      offset_bound = rw c.offset.ensures (offset-lt kept is_task);
      blocking_bound = rw c.blocking.ensures (blocking-lt kept is_task);
      time_bound = rw c.time.ensures (time-lt kept is_task setting.mode);
      phase_lt_period = rw (c.phase_of.ensures, c.period.ensures) (phase-period kept is_task c.args.c);
    }

pub returns : goal.returns
unfolding first_job
returns c =
    at-view c.cells.view_is
    (record {
      kept = c.cells.invariant.0.table.kept;
      is_task = c.cells.invariant.1.chosen.is_task;
      setting = subst (λ (v : Analysed). Setting v.tab v.u v.a c.args.m c.args.c) (sym c.cells.view_is) c.requires;
      mode = refl;
      candidate = refl;
      period = c.period.ensures;
      offset = c.offset.ensures;
      blocking = c.blocking.ensures;
      time = c.time.ensures;
      phase = c.phase_of.ensures;
      first = c.first_job.ensures ∙ ap (λ (h : ℕ). pos 1 -ℤ pos h) c.held_of.ensures;
    })
