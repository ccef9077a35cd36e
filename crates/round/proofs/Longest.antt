-- The longest image is attained: a table with as many transactions, tasks and modes as the limits allow is accepted, and its
-- image has all the bytes that an accepted one may have.
use mathlib.Core.Path.{◌≡◌, refl, ap, ◌∙◌}
use Prim.Native.Nat.{ℕ, ◌+◌, ◌/◌, ◌<◌}
use native.Mathlib.Nat.{lt_of_lt_of_le}
use native.Mathlib.Omega.{arith}
use lib.Dec.{lit<, lit≤}
use lib.ListN.{length}
use Rattle.table.specs.Sum.{sum, greatest}
use Rattle.table.specs.Lists.{list_of}
use Rattle.table.specs.Limits.{transactions_most, modes_most, tasks_in_all}
use Rattle.table.specs.Table.{transactions, transaction, modes, tasks, no_task, no_transaction}
use Rattle.table.specs.Number.{before, in_all}
use Rattle.table.specs.Kept.{Kept, KeptTransaction, KeptTask}
use Rattle.table.proofs.Lists.{length-list_of, get_or-list_of}
use Rattle.table.proofs.Accepted.{kept-timed}
use Rattle.format.specs.Places.{bytes_to, longest_image}
use Rattle.format.specs.Fault.{IsAccepted}
use Rattle.format.proofs.Reach.{bits_most}
use Rattle.format.specs.Image.{image_of}
use Rattle.format.specs.Write.{start_of}
use Rattle.round.specs.Fullest.{fullest_task, fullest_transaction, fullest}
use Rattle.round.proofs.Places.{written-length}
use Rattle.round.proofs.Accepted.{kept-accepted, written-accepted}

full-task : KeptTask modes_most fullest_task
unfolding fullest_task list_of greatest
full-task =
    record {
      offset = lit< tt;
      jitter = lit< tt;
      blocking = lit< tt;
      deadline = lit< tt;
      due = lit≤ tt;
      priority = lit< tt;
      times = refl;
      time = λ m h. omega (arith, get_or-list_of {A = ℕ} modes_most (λ k. 1) m 0 h);
      runs = record { mode = 0; within = lit< tt; some = lit< tt };
      keepable = lit≤ tt;
    }

full-transaction : (u : ℕ) → u < transactions_most → KeptTransaction 1 (fullest_transaction u)
unfolding fullest_transaction list_of
full-transaction u h =
    let many : ℕ = (tasks_in_all + u) / transactions_most in
    let there : length (list_of many (λ j. fullest_task)) ≡ many = length-list_of many (λ j. fullest_task) in
    record {
      period = lit≤ tt;
      divides = refl;
      some_mode = lit≤ tt;
      few_modes = lit≤ tt;
      some_task = omega (arith, there);
      few_tasks = omega (arith, there);
      each = λ j l. rw (get_or-list_of many (λ i. fullest_task) j no_task (omega (arith, there))) full-task;
    }

full-kept : Kept fullest
unfolding fullest fullest_transaction transactions transaction tasks in_all before sum list_of
full-kept =
    record {
      edition = refl;
      some_frame = lit≤ tt;
      frame = lit≤ tt;
      some_transaction = lit≤ tt;
      few_transactions = lit≤ tt;
      few_tasks = lit≤ tt;
      each = λ u h. rw (get_or-list_of _ fullest_transaction u no_transaction h) (full-transaction u (lt_of_lt_of_le h (lit≤ tt)));
    }

full-end : start_of fullest (transactions fullest) ≡ bits_most
unfolding fullest fullest_transaction transactions transaction modes tasks start_of list_of
full-end = refl

pub longest-accepted : IsAccepted (image_of fullest)
longest-accepted = (written-accepted fullest (kept-accepted fullest full-kept) (kept-timed full-kept)).0

pub longest-attained : length (image_of fullest) ≡ longest_image
longest-attained = written-length fullest (kept-timed full-kept) ∙ ap bytes_to full-end
