use mathlib.Core.Path.{◌≡◌}
use Prim.Native.Nat.{◌<◌}
use Rattle.format.specs.Places.{start}
use Rattle.format.specs.Said.{tasks_before}
use Rattle.image.specs.Fill.{transactions_over}
use Rattle.image.proofs.fill.put_transactions.Given as goal

abbrev pub invariant-loop-u : goal.invariant-loop-u
invariant-loop-u l =
    (l.before ≡ tasks_before l.image l.u)
    × (l.at ≡ start l.image l.u)
    × (l.before < 2048)
    × (l.at < 1_000_000)
    × (l.cells ≡ transactions_over l.image l.u l.initial.cells)
