use mathlib.Core.Path.{◌≡◌}
use lib.ListN.{get_or}
use lib.Seq.{sets}
use Rattle.table.specs.Lists.{list_of}
use Rattle.format.specs.Said.{time_in}
use Rattle.image.proofs.fill.put_times.Given as goal

abbrev pub invariant-loop-m : goal.invariant-loop-m
invariant-loop-m l = l.cells ≡ sets l.initial.cells l.cell (list_of l.m (λ m. get_or (list_of l.task.modes (time_in l.task.image.now l.task.at)) m 0))
