use mathlib.Core.Path.{◌≡◌}
use Rattle.table.specs.Sum.{sum as sum_of}
use Rattle.answers.proofs.Readings.{rest_cell}
use Rattle.answers.proofs.charges.Setting.rests.Given as goal

abbrev pub invariant-loop-j : goal.invariant-loop-j
invariant-loop-j l = l.sum ≡ sum_of l.j (rest_cell l.self-inside.work.now l.whole l.self-inside.x l.phases l.weights)
