use mathlib.Core.Path.{◌≡◌}
use Rattle.table.specs.Limits.{time_width}
use Rattle.refusals.specs.Answer.{accepted, first_of}
use Rattle.row.specs.Row.{time_cell}
use Rattle.format.specs.Places.{time_at}
use Rattle.writer.specs.Scan.{fits_at}
use Rattle.writer.proofs.scan.times_fit.Given as goal

abbrev pub invariant-loop-m : goal.invariant-loop-m
invariant-loop-m l = first_of l.m (λ m. fits_at (time_cell l.task.row.now l.task.number m) time_width (time_at l.task.at m)) ≡ accepted
