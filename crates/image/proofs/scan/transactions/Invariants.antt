use mathlib.Core.Path.{◌≡◌}
use mathlib.Core.List.{List}
use Prim.Native.Nat.{ℕ, ◌<◌}
use Rattle.refusals.specs.Answer.{Answer, accepted, first_of}
use Rattle.format.specs.Places.{start}
use Rattle.format.specs.Said.{tasks_before}
use Rattle.format.specs.Fault.{transaction_fault}
use Rattle.image.proofs.scan.transactions.Given as goal

abbrev pub faults : List ℕ → ℕ → Answer
faults image u = transaction_fault image (tasks_before image u) (start image u)

abbrev pub invariant-loop-u : goal.invariant-loop-u
invariant-loop-u l =
    (l.before ≡ tasks_before l.image l.u)
    × (l.at ≡ start l.image l.u)
    × (l.before < 2048)
    × (l.at < 1_000_000)
    × (first_of l.u (faults l.image) ≡ accepted)
