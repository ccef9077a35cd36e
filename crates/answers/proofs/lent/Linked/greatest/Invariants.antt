use Prim.Native.Nat.{◌-◌}
use Rattle.row.specs.Row.{table_of}
use Rattle.answers.specs.Split.{moment}
use Rattle.charge.proofs.Along.{Along}
use Rattle.answers.proofs.lent.Linked.greatest.Given as goal

abbrev pub invariant-loop-z : goal.invariant-loop-z
invariant-loop-z l = let y = l.self-inside in Along l.whole (table_of y.work.now) y.s.u y.s.a l.i (moment l.x) l.best l.z

abbrev pub decreases-loop-z : goal.decreases-loop-z
decreases-loop-z l = l.end - l.z
