use Prim.Native.Nat.{◌-◌}
use Rattle.row.specs.Row.{table_of}
use Rattle.charge.proofs.Along.{Others}
use Rattle.answers.proofs.lent.Linked.rivals.Given as goal

abbrev pub invariant-loop-i : goal.invariant-loop-i
invariant-loop-i l = let y = l.self-inside in Others l.whole (table_of y.work.now) y.s.u y.s.a l.t.0 l.sum l.i

abbrev pub decreases-loop-i : goal.decreases-loop-i
decreases-loop-i l = l.count - l.i
