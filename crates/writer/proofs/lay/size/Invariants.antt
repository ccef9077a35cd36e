use mathlib.Core.Path.{◌≡◌}
use Prim.Native.Nat.{◌<◌}
use Rattle.row.specs.Row.{tasks_before, table_of}
use Rattle.format.specs.Write.{start_of}
use Rattle.writer.proofs.lay.size.Given as goal

abbrev pub invariant-loop-u : goal.invariant-loop-u
invariant-loop-u l =
    record {
      tasks : l.before ≡ tasks_before l.row l.u;
      starts : l.at ≡ start_of (table_of l.row) l.u;
      near : l.at < 1_000_000;
    }
