use mathlib.Core.Path.{◌≡◌}
use Rattle.bits.specs.Put.{bits_put}
use Rattle.table.specs.Lists.{joined}
use Rattle.writer.specs.Parts.{task_bits_from}
use Rattle.writer.proofs.lay.lay_tasks.Given as goal

abbrev pub invariant-loop-j : goal.invariant-loop-j
invariant-loop-j l = l.buffer ≡ bits_put l.initial.buffer l.tasks.at (joined l.j (task_bits_from l.tasks.row.now l.tasks.modes l.tasks.first))
