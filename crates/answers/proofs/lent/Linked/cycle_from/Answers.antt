-- The loop goes the way from the mark again: so far it is a way of a cycle, of at most an evaluation a tick.
use Rattle.std.proofs.Common.{arith}
use Rattle.cycle.specs.Cycle.{none}
use Rattle.answers.proofs.Cycles.{way_on}
use Rattle.answers.proofs.lent.Linked.cycle_from.Goals as goal

pub loop-z-init : goal.loop-z-init
loop-z-init c = (none, omega arith)

pub loop-z-preserved : goal.loop-z-preserved
loop-z-preserved c =
    let inv = c.loop-z.invariant in
    let follows = rw c.in_ok-z.was at c.follower.ensures in
    (way_on inv.0 follows, (omega (arith, follows.above), follows.within))
