use mathlib.Core.Path.{◌≡◌}
use Rattle.table.specs.Sum.{greatest}
use Rattle.row.specs.Row.{time_cell}
use Rattle.writer.proofs.parts.TaskAt.greatest_time.Given as goal

abbrev pub invariant-loop-m : goal.invariant-loop-m
invariant-loop-m l = l.most ≡ greatest l.m (time_cell l.self.row.now l.self.number)
