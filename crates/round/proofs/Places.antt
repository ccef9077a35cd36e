-- Where the fields of a table stand among its bits: each part has as many bits as its places say, so the bits of all end where
-- the padding would start.
use mathlib.Core.Path.{◌≡◌, refl, ap, ◌∙◌}
use mathlib.Core.List.{List}
use Prim.Native.Nat.{ℕ, zero, suc, ◌+◌, ◌*◌, ◌≤◌, ◌<◌}
use native.Mathlib.Omega.{arith}
use lib.ListN.{length, get_or, length-append}
use Rattle.bits.specs.Bits.{field_bits}
use Rattle.bits.proofs.Put.{length-field}
use Rattle.table.specs.Table.{Task, Table, transactions, transaction, modes, tasks, task}
use Rattle.table.specs.Limits.{time_width}
use Rattle.table.specs.Fields.{Timed}
use Rattle.table.specs.Lists.{joined}
use Rattle.table.proofs.Lists.{length-joined}
use Rattle.format.specs.Places.{first_at, head_width, task_width, bytes_to}
use Rattle.format.specs.Image.{task_bits, transaction_bits, table_bits, image_of}
use Rattle.format.specs.Write.{start_of}
use Rattle.round.proofs.Bits.{image-length}

-- n fields of one width
pub length_fields : (w n : ℕ) (f : ℕ → ℕ) → length (joined n (λ k. field_bits w (f k))) ≡ n * w
length_fields w n f = length-joined n w _ (λ k h. length-field w (f k))

-- ---- a task

module _ (t : Task) where
  abbrev pub time_bits : ℕ → List ℕ
  time_bits m = field_bits time_width (get_or t.times m 0)

  pub length-task : length (task_bits t) ≡ task_width (length t.times)
  unfolding task_bits
  length-task = simp (length-append, length-field, length_fields)

-- ---- a transaction whose tasks have one time for each mode

module _ (tab : Table) (timed : Timed tab) where
  module _ (u : ℕ) (h : u < transactions tab) where
    pub length-tasks : (j : ℕ) → j ≤ tasks tab u → length (joined j (λ i. task_bits (task tab u i))) ≡ j * task_width (modes tab u)
    length-tasks j few =
        length-joined j (task_width (modes tab u)) _
        (λ i below. length-task (task tab u i) ∙ ap task_width (timed.times u i (record { owner = h; place = omega arith })))

    length-transaction : length (transaction_bits (transaction tab u)) ≡ head_width + tasks tab u * task_width (modes tab u)
    unfolding transaction_bits tasks task
    length-transaction = simp (length-append, length-field, length-tasks (tasks tab u) (omega arith))

  -- the transactions, from where the first one starts
  pub length_front : (u : ℕ) → u ≤ transactions tab → first_at + length (joined u (λ v. transaction_bits (transaction tab v))) ≡ start_of tab u
  unfolding joined start_of
  length_front zero h = refl
  length_front (suc u) h =
      rw (length-append, length-transaction u h) (omega (arith, length_front u (omega arith)))

  -- the bits of a table end where the padding would start
  pub length-table : length (table_bits tab) ≡ start_of tab (transactions tab)
  unfolding table_bits
  length-table = simp (length-append, length-field) (length_front (transactions tab) (omega arith))

  pub written-length : length (image_of tab) ≡ bytes_to (start_of tab (transactions tab))
  written-length = image-length tab ∙ ap bytes_to length-table
