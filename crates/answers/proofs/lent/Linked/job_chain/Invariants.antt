use Prim.Native.Nat.{◌-◌, ◌≤◌}
use Rattle.periods.specs.Charge.{imposed}
use Rattle.analysis.specs.Bound.{demand}
use Rattle.analysis.specs.Needed.{start}
use Rattle.analysis.specs.Walk.{never?}
use Rattle.answers.specs.Turn.{Reaches}
use Rattle.answers.proofs.Chain.{Left}
use Rattle.answers.proofs.lent.Linked.job_chain.Given as goal

abbrev pub invariant-loop-made : goal.invariant-loop-made
invariant-loop-made l =
    Left (demand imposed l.self.tab l.self.u l.self.a l.x.mode l.x.candidate l.p.number) never? l.budget l.used (start l.self.tab l.self.u l.self.a l.x.mode l.x.candidate l.p.number) l.made l.t.0
    × ((reaches : Reaches l.self.tab l.self.u l.self.a l.x.mode l.x.candidate l.p.number) → l.t.0 ≤ reaches.t)

abbrev pub decreases-loop-made : goal.decreases-loop-made
decreases-loop-made l = l.budget - l.made
