-- `explain::Told::summary` counts no more tasks than it has passed.
use Prim.Native.Nat.{◌+◌, ◌≤◌}
use Rattle.explain.proofs.Told.summary.Given as goal

abbrev pub invariant-loop-k : goal.invariant-loop-k
invariant-loop-k l = l.all.kept + l.all.open ≤ l.k
