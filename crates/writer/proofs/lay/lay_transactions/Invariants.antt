use mathlib.Core.Path.{◌≡◌}
use Prim.Native.Nat.{◌<◌}
use Rattle.bits.specs.Put.{bits_put}
use Rattle.table.specs.Lists.{joined}
use Rattle.row.specs.Row.{tasks_before, transaction_of, table_of}
use Rattle.format.specs.Places.{first_at}
use Rattle.format.specs.Image.{transaction_bits}
use Rattle.format.specs.Write.{start_of}
use Rattle.writer.proofs.lay.lay_transactions.Given as goal

abbrev pub invariant-loop-u : goal.invariant-loop-u
invariant-loop-u l =
    record {
      tasks : l.before ≡ tasks_before l.row l.u;
      starts : l.at ≡ start_of (table_of l.row) l.u;
      near : l.at < 1_000_000;
      laid : l.buffer ≡ bits_put l.initial.buffer first_at (joined l.u (λ v. transaction_bits (transaction_of l.row v)));
    }
