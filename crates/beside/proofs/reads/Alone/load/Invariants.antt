use Rattle.std.proofs.Common.{◌≡◌}
use Rattle.row.specs.Row.{table_of}
use Rattle.table.specs.Sum.{sum}
use Rattle.jitter.specs.Start.{rival_load}
use Rattle.beside.proofs.reads.Alone.load.Given as goal

abbrev pub invariant-loop-i : goal.invariant-loop-i
invariant-loop-i l = l.all ≡ sum l.i (rival_load (table_of l.self.row.now) l.self.u)
