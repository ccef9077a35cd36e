use mathlib.Core.Path.{◌≡◌}
use Rattle.table.specs.Sum.{sum as sum_of}
use Rattle.charge.proofs.Loads.{share}
use Rattle.answers.proofs.lent.Linked.frame_demand.Given as goal

abbrev pub invariant-loop-i : goal.invariant-loop-i
invariant-loop-i l = l.sum ≡ sum_of l.i (share l.self.tab l.self.u l.self.a)
