-- The loop keeps the greatest of what the settings before z charge: z is the next that is charged, and ends behind those of
-- the transaction. Assumes nothing.
use mathlib.Core.Path.{ap, ◌∙◌}
use native.Mathlib.Omega.{arith}
use Rattle.row.specs.Row.{table_of}
use Rattle.analysis.specs.Charge.{greatest}
use Rattle.charge.specs.Later.{later_of}
use Rattle.answers.specs.Split.{moment}
use Rattle.charge.proofs.Along.{along-first, along-next, along-last}
use Rattle.answers.proofs.Readings.{first-setting, next-setting, setting-in, at-setting}
use Rattle.answers.proofs.lent.Linked.greatest.Goals as goal

pub loop-z-init : goal.loop-z-init
loop-z-init c =
    let kept = c.self.invariant.0.table.kept in
    let split = c.split_of-x.ensures.is_split in
    along-first kept c.args.whole split.owner (moment c.split_of-x.result) (first-setting c.self.invariant.1 kept split)

pub invariant_of-setting : goal.invariant_of-setting
invariant_of-setting c =
    let split = c.split_of-x.ensures.is_split in
    let at = at-setting split c.loop-z.invariant.from (omega arith) in
    setting-in c.self.invariant.0 c.self.invariant.1 at.is_task (c.loop-z.invariant.charged _ _ at).mode split

pub loop-z-smaller : goal.loop-z-smaller
loop-z-smaller c =
    let at = at-setting c.split_of-x.ensures.is_split c.loop-z.invariant.from (omega arith) in
    let next = next-setting c.self.invariant.1 at (c.loop-z.invariant.charged _ _ at).mode in
    omega (arith, next.from)

pub loop-z-preserved : goal.loop-z-preserved
loop-z-preserved c =
    let split = c.split_of-x.ensures.is_split in
    let at = at-setting split c.loop-z.invariant.from (omega arith) in
    let next = next-setting c.self.invariant.1 at (c.loop-z.invariant.charged _ _ at).mode in
    rw c.charge_from-best.ensures
    (along-next c.self.invariant.0.table.kept c.args.whole split.owner (moment c.split_of-x.result) c.loop-z.invariant at next)

pub returns : goal.returns
returns c =
    let y = c.self.inside in
    let split = c.split_of-x.ensures in
    rw (← c.self.view_is)
    (along-last c.self.invariant.0.table.kept c.args.whole split.is_split.owner (moment c.split_of-x.result) c.loop-z.invariant
    (omega (arith, split.is_split.first, split.is_split.count))
    ∙ ap (greatest (later_of c.args.whole) (table_of y.work.now) y.s.u y.s.a c.args.i) split.at)
