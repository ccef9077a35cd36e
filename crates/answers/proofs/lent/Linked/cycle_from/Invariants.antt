use Prim.Native.Nat.{◌+◌, ◌-◌, ◌≤◌}
use Rattle.analysis.specs.Bound.{busy}
use Rattle.cycle.specs.Cycle.{Way}
use Rattle.answers.proofs.lent.Linked.cycle_from.Given as goal

abbrev pub invariant-loop-z : goal.invariant-loop-z
invariant-loop-z l =
    Way (busy l.self.tab l.self.u l.self.a l.x.mode l.x.candidate) l.far.0 l.initial.z.0 l.evaluations l.z.0
    × ((l.initial.z.0 + l.evaluations ≤ l.z.0) × (l.z.0 ≤ l.end.0))

abbrev pub decreases-loop-z : goal.decreases-loop-z
decreases-loop-z l = l.end.0 - l.z.0
