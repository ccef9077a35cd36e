use mathlib.Core.Path.{◌≡◌}
use Prim.Native.Nat.{◌+◌, ◌*◌, ◌≤◌}
use Rattle.table.specs.Number as numbered
use Rattle.table.specs.Limits.{tasks_in_all}
use Rattle.refusals.specs.Answer.{accepted, first_of}
use Rattle.row.specs.Row.{table_of}
use Rattle.format.specs.Write.{start_of}
use Rattle.writer.proofs.Scanned.{faults}
use Rattle.writer.proofs.scan.transactions.Given as goal

abbrev pub invariant-loop-u : goal.invariant-loop-u
invariant-loop-u l =
    record {
      few : l.before ≤ tasks_in_all;
      near : l.at ≤ 34 + 14_479 * l.u;
      tasks : l.before ≡ numbered.before (table_of l.row) l.u;
      starts : l.at ≡ start_of (table_of l.row) l.u;
      none : first_of l.u (faults (table_of l.row)) ≡ accepted;
    }
