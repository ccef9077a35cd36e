use Prim.Native.Nat.{◌-◌}
use Rattle.analysis.specs.Bound.{busy}
use Rattle.analysis.specs.Walk.{beyond?}
use Rattle.answers.specs.Ahead.{Met}
use Rattle.answers.proofs.Chain.{Left}
use Rattle.answers.proofs.lent.Linked.busy_chain.Given as goal

abbrev pub invariant-loop-made : goal.invariant-loop-made
invariant-loop-made l =
    Left (busy l.self.tab l.self.u l.self.a l.x.mode l.x.candidate) beyond? l.budget l.used 1 l.made l.t.0
    × (Met l.t.0 × Met l.mark.0)

abbrev pub decreases-loop-made : goal.decreases-loop-made
decreases-loop-made l = l.budget - l.made
