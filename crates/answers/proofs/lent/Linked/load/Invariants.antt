use mathlib.Core.Path.{◌≡◌}
use Rattle.table.specs.Sum.{sum as sum_of}
use Rattle.charge.proofs.Loads.{urgent_time}
use Rattle.answers.proofs.lent.Linked.load.Given as goal

abbrev pub invariant-loop-j : goal.invariant-loop-j
invariant-loop-j l = l.sum ≡ sum_of l.j (urgent_time l.self.tab l.self.u l.self.a l.i l.m)
