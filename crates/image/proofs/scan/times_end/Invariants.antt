use mathlib.Core.Path.{◌≡◌}
use Rattle.table.specs.Limits.{time_width}
use Rattle.refusals.specs.Answer.{accepted, first_of}
use Rattle.format.specs.Places.{time_at}
use Rattle.format.specs.Fault.{ends_at}
use Rattle.image.proofs.scan.times_end.Given as goal

abbrev pub invariant-loop-m : goal.invariant-loop-m
invariant-loop-m l = first_of l.m (λ m. ends_at l.task.image.now (time_at l.task.at m) time_width) ≡ accepted
