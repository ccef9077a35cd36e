use mathlib.Core.Path.{◌≡◌}
use Prim.Native.Nat.{◌+◌}
use lib.Seq.{sets}
use Rattle.format.specs.Places.{head_width}
use Rattle.image.specs.Fill.{tasks_cells}
use Rattle.image.proofs.fill.put_tasks.Given as goal

abbrev pub invariant-loop-j : goal.invariant-loop-j
invariant-loop-j l = l.cells ≡ sets l.initial.cells l.cell (tasks_cells l.t.image.now l.t.head.modes (l.t.at + head_width) l.owner l.j)
