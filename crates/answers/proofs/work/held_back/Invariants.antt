use mathlib.Core.Path.{◌≡◌}
use Rattle.table.specs.Sum.{sum}
use Rattle.answers.proofs.Weighing.{held_weight}
use Rattle.answers.proofs.work.held_back.Given as goal

abbrev pub invariant-loop-j : goal.invariant-loop-j
invariant-loop-j l = l.held ≡ sum l.j (held_weight l.work l.of.m l.c l.of.first)
