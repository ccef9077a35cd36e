-- `Kept` holds of document 01's sample S.
use mathlib.Core.Path.{refl}
use mathlib.Core.List.{[], ◌∷◌}
use Prim.Native.Nat.{ℕ, zero, suc, ◌+◌, ◌≤◌, ◌<◌, ◌^◌}
use native.Mathlib.Nat.{zero-max}
use native.Mathlib.Omega.{arith}
use lib.Dec.{lit<, lit≤}
use lib.ListN.{get_or}
use Rattle.table.specs.Sum.{sum, greatest}
use Rattle.table.specs.Table.{no_task, transactions, transaction, tasks}
use Rattle.table.specs.Number.{before, in_all}
use Rattle.table.specs.Kept.{Kept, KeptTransaction, KeptTask}
use Rattle.table.specs.Sample.{S, plain}

-- a task of one mode keeps its bounds where its numbers do
plain_kept : (O C P D : ℕ) → O < 2 ^ 24 → C < 2 ^ 24 → 0 < C → P < 2 ^ 8 → D < 2 ^ 26 → O + C ≤ D → KeptTask 1 (plain O C P D)
unfolding greatest
plain_kept O C P D o c some p d keepable =
    record {
      offset = o;
      jitter = lit< tt;
      blocking = lit< tt;
      deadline = d;
      due = omega arith;
      priority = p;
      times = refl;
      time = λ m h. time m h;
      runs = record { mode = 0; within = lit< tt; some = some };
      keepable = rw (zero-max C) keepable;
    }
  where
    time : (m : ℕ) → m < 1 → get_or (C ∷ []) m 0 < 2 ^ 24
    time zero h = c
    time (suc m) h = absurd (omega arith)

pub S-kept : Kept S
unfolding transactions transaction tasks in_all before sum
S-kept =
    record {
      edition = refl;
      some_frame = lit≤ tt;
      frame = lit≤ tt;
      some_transaction = lit≤ tt;
      few_transactions = lit≤ tt;
      few_tasks = lit≤ tt;
      each = each;
    }
  where
    first : (j : ℕ) → j < 2 → KeptTask 1 (get_or (plain 0 2 9 10 ∷ plain 4 3 8 10 ∷ []) j no_task)
    first zero h = plain_kept 0 2 9 10 (lit< tt) (lit< tt) (lit< tt) (lit< tt) (lit< tt) (lit≤ tt)
    first (suc zero) h = plain_kept 4 3 8 10 (lit< tt) (lit< tt) (lit< tt) (lit< tt) (lit< tt) (lit≤ tt)
    first (suc (suc j)) h = absurd (omega arith)

    second : (j : ℕ) → j < 1 → KeptTask 1 (get_or (plain 0 2 1 4 ∷ []) j no_task)
    second zero h = plain_kept 0 2 1 4 (lit< tt) (lit< tt) (lit< tt) (lit< tt) (lit< tt) (lit≤ tt)
    second (suc j) h = absurd (omega arith)

    each : (u : ℕ) → u < 2 → KeptTransaction 20 (transaction S u)
    each zero h =
        record { period = lit≤ tt; divides = refl; some_mode = lit≤ tt; few_modes = lit≤ tt; some_task = lit≤ tt; few_tasks = lit≤ tt; each = first }
    each (suc zero) h =
        record { period = lit≤ tt; divides = refl; some_mode = lit≤ tt; few_modes = lit≤ tt; some_task = lit≤ tt; few_tasks = lit≤ tt; each = second }
    each (suc (suc u)) h = absurd (omega arith)
