use mathlib.Core.Path.{◌≡◌}
use Rattle.bits.specs.Put.{bits_put}
use Rattle.table.specs.Lists.{joined}
use Rattle.format.specs.Places.{times_at}
use Rattle.writer.specs.Parts.{time_bits}
use Rattle.writer.proofs.lay.lay_times.Given as goal

abbrev pub invariant-loop-m : goal.invariant-loop-m
invariant-loop-m l = l.buffer ≡ bits_put l.initial.buffer (times_at l.task.at) (joined l.m (time_bits l.task.row.now l.task.number))
