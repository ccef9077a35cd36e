-- The table that an image says, by the places of its fields.
use mathlib.Core.Path.{◌≡◌, refl, ap}
use mathlib.Core.List.{List}
use Prim.Native.Nat.{ℕ, ◌≤◌, ◌<◌}
use native.Mathlib.Omega.{arith}
use Rattle.table.specs.Table.{Transaction, transactions, transaction, period, modes, tasks, task}
use Rattle.table.specs.Number.{before, in_all}
use Rattle.table.proofs.Sum.{sum-ext}
use Rattle.format.specs.Places.{task_at, start}
use Rattle.format.specs.Said.{edition_in, frame_in, count_in, period_in, modes_in, tasks_in, task_in, transaction_in, table_in, tasks_before}
use Rattle.table.proofs.Lists.{length-list_of, get_or-list_of}

module _ (image : List ℕ) where
  pub said-edition : (table_in image).edition ≡ edition_in image
  unfolding table_in
  said-edition = refl

  pub said-frame : (table_in image).frame ≡ frame_in image
  unfolding table_in
  said-frame = refl

  pub said-transactions : transactions (table_in image) ≡ count_in image
  unfolding transactions table_in
  said-transactions = length-list_of (count_in image) _

  pub said-transaction : (u : ℕ) → u < count_in image → transaction (table_in image) u ≡ transaction_in image (start image u)
  unfolding transaction table_in
  said-transaction u h = get_or-list_of (count_in image) (λ v. transaction_in image (start image v)) u _ h

  pub said-period : (u : ℕ) → u < count_in image → period (table_in image) u ≡ period_in image (start image u)
  unfolding period transaction_in
  said-period u h = ap (λ (x : Transaction). x.period) (said-transaction u h)

  pub said-modes : (u : ℕ) → u < count_in image → modes (table_in image) u ≡ modes_in image (start image u)
  unfolding modes transaction_in
  said-modes u h = ap (λ (x : Transaction). x.modes) (said-transaction u h)

  pub said-tasks : (u : ℕ) → u < count_in image → tasks (table_in image) u ≡ tasks_in image (start image u)
  unfolding tasks transaction_in
  said-tasks u h = rw (said-transaction u h) (length-list_of (tasks_in image (start image u)) _)

  pub said-task :
      (u j : ℕ)
      → u < count_in image
      → j < tasks_in image (start image u)
      → task (table_in image) u j
      ≡ task_in image (modes_in image (start image u)) (task_at (start image u) (modes_in image (start image u)) j)
  unfolding task transaction_in
  said-task u j h k = rw (said-transaction u h) (get_or-list_of (tasks_in image (start image u)) _ j _ k)

  pub said-before : (u : ℕ) → u ≤ count_in image → before (table_in image) u ≡ tasks_before image u
  unfolding before tasks_before
  said-before u h = sum-ext u (λ v below. said-tasks v (omega arith))

  pub said-in-all : in_all (table_in image) ≡ tasks_before image (count_in image)
  unfolding in_all
  said-in-all = rw said-transactions (said-before (count_in image) (omega arith))
