use mathlib.Core.Path.{◌≡◌}
use Rattle.analysis.specs.Choice.{most}
use Rattle.charge.proofs.Loads.{counted_load}
use Rattle.answers.proofs.lent.Linked.most_load.Given as goal

abbrev pub invariant-loop-m : goal.invariant-loop-m
invariant-loop-m l = l.best ≡ most l.m (counted_load l.self.tab l.self.u l.self.a l.i)
