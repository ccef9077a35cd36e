use mathlib.Core.Path.{◌≡◌}
use Prim.Native.Nat.{◌≤◌, ◌<◌}
use Rattle.format.specs.Places.{start}
use Rattle.format.specs.Said.{tasks_before}
use Rattle.places.proofs.owner_at.Given as goal

abbrev pub invariant-loop-u : goal.invariant-loop-u
invariant-loop-u l =
    record {
      tasks : l.before ≡ tasks_before l.image l.u;
      starts : l.at ≡ start l.image l.u;
      reached : l.at ≤ l.place;
      few : l.before < 2048;
      near : l.at < 1_000_000;
    }
