use mathlib.Core.Path.{◌≡◌}
use Rattle.refusals.specs.Answer.{accepted, first_of}
use Rattle.format.specs.Places.{task_at}
use Rattle.format.specs.Fault.{head_fault, task_fault}
use Rattle.image.proofs.scan.transaction.Given as goal

abbrev pub invariant-loop-j : goal.invariant-loop-j
invariant-loop-j l =
    (head_fault l.t.image.now l.before l.t.at ≡ accepted)
    × (first_of l.j (λ j. task_fault l.t.image.now l.t.head.modes (task_at l.t.at l.t.head.modes j)) ≡ accepted)
