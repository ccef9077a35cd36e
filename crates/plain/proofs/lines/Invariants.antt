-- `plain::lines` counts no more tasks than it has passed.
use Prim.Native.Nat.{◌+◌, ◌≤◌}
use Rattle.plain.proofs.lines.Given as goal

abbrev pub invariant-loop-k : goal.invariant-loop-k
invariant-loop-k l = l.all.agree + l.all.above + l.all.apart ≤ l.k
