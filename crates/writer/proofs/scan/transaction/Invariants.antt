use mathlib.Core.Path.{◌≡◌}
use Prim.Native.Nat.{◌+◌, ◌*◌}
use Rattle.refusals.specs.Answer.{accepted, first_of}
use Rattle.format.specs.Places.{task_width}
use Rattle.writer.specs.Scan.{task_fault}
use Rattle.writer.proofs.scan.transaction.Given as goal

abbrev pub invariant-loop-j : goal.invariant-loop-j
invariant-loop-j l = first_of l.j (λ i. task_fault l.tasks.row.now l.tasks.modes (l.tasks.first + i) (l.tasks.at + i * task_width l.tasks.modes)) ≡ accepted
