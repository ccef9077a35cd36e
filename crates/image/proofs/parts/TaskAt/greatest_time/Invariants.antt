use mathlib.Core.Path.{◌≡◌}
use Rattle.table.specs.Sum.{greatest}
use Rattle.format.specs.Said.{time_in}
use Rattle.image.proofs.parts.TaskAt.greatest_time.Given as goal

abbrev pub invariant-loop-m : goal.invariant-loop-m
invariant-loop-m l = l.most ≡ greatest l.m (time_in l.self.image.now l.self.at)
