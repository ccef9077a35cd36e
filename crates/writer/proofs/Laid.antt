-- The bits of a table put field by field: each field stands behind those before it, and together they are the bits of a task, of a
-- transaction, of the table.
use mathlib.Core.Path.{◌≡◌, refl, sym, ap, ◌∙◌}
use mathlib.Core.List.{List, ◌++◌, append_assoc}
use Prim.Native.Nat.{ℕ, zero, suc, ◌+◌, ◌*◌, ◌≤◌, ◌<◌}
use native.Mathlib.Nat.{mul-le-mul}
use native.Mathlib.Numerals.{add-one}
use native.Mathlib.Omega.{arith}
use lib.ListN.{length, get_or, length-append}
use Rattle.bits.specs.Bits.{field_bits}
use Rattle.bits.specs.Put.{bits_put}
use Rattle.bits.proofs.Put.{put-append, length-field}
use Rattle.table.specs.Limits.{transactions_most, modes_most, tasks_most, tasks_in_all, time_width}
use Rattle.table.specs.Table.{Task, transactions, transaction, modes, tasks, no_task}
use Rattle.table.specs.Number.{in_all}
use Rattle.table.specs.Kept.{Kept}
use Rattle.table.proofs.Sum.{sum-next}
use Rattle.table.proofs.Number.{before-suc, before-grow}
use Rattle.table.specs.Lists.{joined}
use Rattle.table.proofs.Lists.{length-list_of, length-joined, joined_same}
use Rattle.format.specs.Places.{first_at, head_width, task_width}
use Rattle.format.specs.Image.{task_bits, transaction_bits, table_bits}
use Rattle.format.specs.Write.{start_of}
use Rattle.format.proofs.Round.{listed-joined}
use Rattle.round.proofs.Places.{length-task, length_front}
use Rattle.round.proofs.Row.{row-timed}
use Rattle.row.proofs.Readers.{head-cell}
use Rattle.row.proofs.Held.{transaction-there, held-before}
use Rattle.writer.specs.Parts.{header_bits, head_bits, front_bits, back_bits, time_bits, task_bits_from}
use Rattle.writer.proofs.Scanned.{modes-there, tasks-there}
use Rattle.row.specs.Row.{transaction_cell, modes_cell, has_cell, task_cell, times_cell, task_of, tasks_before, transaction_of, table_of, head_cell}

-- ---- one more list behind those that are put

pub behind :
    (bytes : List ℕ) (p n : ℕ) (xs ys : List ℕ) → length xs ≡ n → bits_put (bits_put bytes p xs) (p + n) ys ≡ bits_put bytes p (xs ++ ys)
behind bytes p n xs ys long = rw (put-append bytes p xs ys, long)

pub put-joined :
    (bytes : List ℕ) (p k n : ℕ) (f : ℕ → List ℕ)
    → length (joined k f) ≡ n
    → bits_put (bits_put bytes p (joined k f)) (p + n) (f k) ≡ bits_put bytes p (joined (k + 1) f)
unfolding joined
put-joined bytes p k n f long = rw (add-one k) (behind bytes p n (joined k f) (f k) long)

-- two fields, and three, put one behind the other

pub two-laid :
    (bytes : List ℕ) (at v w x y : ℕ)
    → bits_put (bits_put bytes at (field_bits v x)) (at + v) (field_bits w y) ≡ bits_put bytes at (field_bits v x ++ field_bits w y)
two-laid bytes at v w x y = sym (simp (put-append, length-field))

pub three-laid :
    (bytes : List ℕ) (at u v w x y z : ℕ)
    → bits_put (bits_put (bits_put bytes at (field_bits u x)) (at + u) (field_bits v y)) (at + (u + v)) (field_bits w z)
    ≡ bits_put bytes at (field_bits u x ++ field_bits v y ++ field_bits w z)
three-laid bytes at u v w x y z = sym (simp (put-append, length-append, length-field))

-- ---- the times of a task, a task, and the tasks of a transaction

module _ (row : List ℕ) where
  length-first : (k : ℕ) → length (front_bits row k) ≡ 72
  unfolding front_bits
  length-first k = simp (length-append, length-field)

  length_back : (k : ℕ) → length (back_bits row k) ≡ 34
  unfolding back_bits
  length_back k = simp (length-append, length-field)

  pub task-laid :
      (bytes : List ℕ) (at many k : ℕ)
      → bits_put (bits_put (bits_put bytes at (front_bits row k)) (at + 72) (back_bits row k)) (at + 106) (joined many (time_bits row k))
      ≡ bits_put bytes at (task_bits (task_of row many k))
  unfolding task_bits task_of front_bits back_bits
  task-laid bytes at many k =
      let times = joined many (time_bits row k) in
      ap (λ (b : List ℕ). bits_put b (at + 106) times) (behind bytes at 72 (front_bits row k) (back_bits row k) (length-first k))
      ∙ behind bytes at 106 (front_bits row k ++ back_bits row k) times (rw (length-append (front_bits row k), length-first k, length_back k))
      ∙ rw (listed-joined many (λ m. get_or row (task_cell k + (times_cell + m)) 0) 0 (field_bits time_width))
      (ap (λ (l : List ℕ). bits_put bytes at (l ++ times)) (sym (append_assoc (front_bits row k) _ _)))

  length-task-of : (modes k : ℕ) → length (task_bits (task_of row modes k)) ≡ task_width modes
  unfolding task_of
  length-task-of modes k = length-task (task_of row modes k) ∙ ap task_width (length-list_of modes _)

  pub length-tasks : (modes first j : ℕ) → length (joined j (task_bits_from row modes first)) ≡ j * task_width modes
  length-tasks modes first j = length-joined j (task_width modes) _ (λ i h. length-task-of modes (first + i))

  -- ---- a transaction

  pub transaction-laid :
      (bytes : List ℕ) (at u first : ℕ)
      → first ≡ tasks_before row u
      → bits_put (bits_put bytes at (head_bits row u)) (at + 33)
      (joined (get_or row (transaction_cell u + has_cell) 0) (task_bits_from row (get_or row (transaction_cell u + modes_cell) 0) first))
      ≡ bits_put bytes at (transaction_bits (transaction_of row u))
  unfolding transaction_bits transaction_of head_bits
  transaction-laid bytes at u first is =
      let n : ℕ = get_or row (transaction_cell u + has_cell) 0 in
      let tasks : ℕ → Task = λ j. task_of row (get_or row (transaction_cell u + modes_cell) 0) (tasks_before row u + j) in
      rw (is, listed-joined n tasks no_task task_bits, length-list_of n tasks) (simp (put-append, length-append, length-field))

-- ---- a row whose table no rule refuses: the counts of transaction u are small, and it starts not far from the image's first bit

-- the bits of the widest transaction
abbrev pub transaction_width : ℕ
transaction_width = head_width + tasks_most * task_width modes_most

pub record Few (row : List ℕ) (u : ℕ) : Type 0 where
  pub transactions : u < transactions_most
  pub modes : head_cell row u modes_cell ≤ modes_most
  pub tasks : head_cell row u has_cell ≤ tasks_most
  pub in_all : tasks_before row u + head_cell row u has_cell ≤ tasks_in_all

module _ (row : List ℕ) (kept : Kept (table_of row)) where
  pub few : (u : ℕ) → u < transactions (table_of row) → Few row u
  unfolding modes tasks in_all
  few u h =
      let x = kept.each u h in
      let near : u < transactions_most = omega (arith, kept.few_transactions) in
      let modes_is = modes-there row h near in
      let tasks_is = tasks-there row h near in
      record {
        transactions = near;
        modes = rw modes_is x.few_modes;
        tasks = rw tasks_is x.few_tasks;
        in_all = rw (tasks_is, ← held-before row u (omega arith)) (omega (arith, kept.few_tasks, before-suc (table_of row) u, before-grow (table_of row) h));
      }

  pub near : (u : ℕ) → u ≤ transactions (table_of row) → start_of (table_of row) u ≤ first_at + u * transaction_width
  unfolding start_of modes tasks
  near zero h = omega arith
  near (suc u) h =
      let x = kept.each u h in
      let wide : tasks (table_of row) u * task_width (modes (table_of row) u) ≤ tasks_most * task_width modes_most =
      (let narrow : task_width (modes (table_of row) u) ≤ task_width modes_most = omega (arith, x.few_modes) in mul-le-mul x.few_tasks narrow) in
      omega (arith, near u (omega arith), wide)

  -- the transactions that are put end where the next one starts
  abbrev pub transaction_bits_at : ℕ → List ℕ
  transaction_bits_at u = transaction_bits (transaction_of row u)

  same-transactions : (u : ℕ) → u ≤ transactions (table_of row) → joined u (λ v. transaction_bits (transaction (table_of row) v)) ≡ joined u transaction_bits_at
  same-transactions u h = joined_same u _ _ (λ v below. ap transaction_bits (transaction-there row (omega arith)))

  pub transactions-laid :
      (bytes : List ℕ) (u : ℕ)
      → u < transactions (table_of row)
      → bits_put (bits_put bytes first_at (joined u transaction_bits_at)) (start_of (table_of row) u) (transaction_bits_at u)
      ≡ bits_put bytes first_at (joined (u + 1) transaction_bits_at)
  transactions-laid bytes u h =
      let few : u ≤ transactions (table_of row) = omega arith in
      let at : start_of (table_of row) u ≡ first_at + length (joined u transaction_bits_at) =
      rw (← same-transactions u few) (sym (length_front (table_of row) (row-timed row) u few)) in
      rw at (put-joined bytes first_at u (length (joined u transaction_bits_at)) transaction_bits_at refl)

  pub next-tasks : (u : ℕ) → u < transactions_most → tasks_before row (u + 1) ≡ tasks_before row u + head_cell row u has_cell
  unfolding tasks_before
  next-tasks u h = rw (head-cell row u has_cell h) (sum-next u _)

  pub table-laid :
      (bytes : List ℕ)
      → bits_put (bits_put bytes 0 (header_bits row)) first_at (joined (transactions (table_of row)) transaction_bits_at)
      ≡ bits_put bytes 0 (table_bits (table_of row))
  unfolding table_bits header_bits
  table-laid bytes =
      rw (same-transactions (transactions (table_of row)) (omega arith)) (simp (put-append, length-append, length-field))
