-- The cells of a transaction and of a task that an image says.
use mathlib.Core.Path.{◌≡◌, refl, ◌∙◌}
use mathlib.Core.List.{List, [], ◌∷◌}
use Prim.Native.Nat.{ℕ, zero, suc, ◌+◌, ◌*◌, ◌<◌}
use native.Mathlib.Nat.{add-mul}
use native.Mathlib.Omega.{arith}
use lib.ListN.{length, length-append}
use lib.Seq.{sets, length-sets}
use Rattle.table.specs.Sum.{sum}
use Rattle.format.specs.Said.{edition_in, frame_in, count_in, period_in, modes_in, tasks_in, task_in, transaction_in, tasks_before}
use Rattle.format.specs.Places.{task_width, start}
use Rattle.row.specs.Row.{header_cells, transaction_cells, task_cells, tasks_cell, of_transaction, of_task}
use Rattle.image.specs.Fill.{tasks_cells, heads_in, of_tasks_in, every_task_in, transactions_over, filled_over}
use Rattle.table.specs.Limits.{transactions_most}
use Rattle.table.specs.Lists.{joined}
use Rattle.table.proofs.Lists.{length-list_of, length-joined, join-next, sets-before}
use Rattle.row.proofs.Rows.{length-head, length-task}

pub head-cells :
    (first : ℕ) (image : List ℕ) (p : ℕ)
    → of_transaction first (transaction_in image p) ≡ period_in image p ∷ modes_in image p ∷ first ∷ tasks_in image p ∷ 0 ∷ []
unfolding of_transaction transaction_in
head-cells first image p = rw (length-list_of (tasks_in image p))

-- each group is as long as its cells are many

length-tasks : (image : List ℕ) (m q u n : ℕ) → length (tasks_cells image m q u n) ≡ n * task_cells
unfolding tasks_cells
length-tasks image m q u n = length-joined n task_cells _ (λ j h. length-task u _)

pub length-heads : (image : List ℕ) (n : ℕ) → length (heads_in image n) ≡ n * transaction_cells
unfolding heads_in
length-heads image n = length-joined n transaction_cells _ (λ u h. length-head (tasks_before image u) _)

pub length-every : (image : List ℕ) (n : ℕ) → length (every_task_in image n) ≡ tasks_before image n * task_cells
unfolding every_task_in joined tasks_before sum of_tasks_in
length-every image zero = refl
length-every image (suc n) = rw (length-append, length-every image n, length-tasks, add-mul)

-- and storing them leaves as many cells as there were
pub length-transactions : (image : List ℕ) (n : ℕ) (cells : List ℕ) → length (transactions_over image n cells) ≡ length cells
unfolding transactions_over
length-transactions image n cells = length-sets (sets cells header_cells (heads_in image n)) tasks_cell (every_task_in image n) ∙ length-sets cells header_cells (heads_in image n)

pub length-filled : (image cells : List ℕ) → length (filled_over image cells) ≡ length cells
unfolding filled_over
length-filled image cells =
    length-sets (transactions_over image (count_in image) cells) 0 (edition_in image ∷ frame_in image ∷ count_in image ∷ tasks_before image (count_in image) ∷ 0 ∷ [])
    ∙ length-transactions image (count_in image) cells

-- a group with one more behind it

pub next-task :
    (image : List ℕ) (m q u : ℕ) (l : List ℕ) (i j : ℕ)
    → sets (sets l i (tasks_cells image m q u j)) (i + j * task_cells) (of_task u (task_in image m (q + j * task_width m)))
    ≡ sets l i (tasks_cells image m q u (j + 1))
unfolding tasks_cells
next-task image m q u l i j = join-next _ l i j (j * task_cells) (length-tasks image m q u j)

next-head :
    (image l : List ℕ) (i u : ℕ)
    → sets (sets l i (heads_in image u)) (i + u * transaction_cells)
    (of_transaction (tasks_before image u) (transaction_in image (start image u)))
    ≡ sets l i (heads_in image (u + 1))
unfolding heads_in
next-head image l i u = join-next _ l i u (u * transaction_cells) (length-heads image u)

next-tasks :
    (image l : List ℕ) (i u : ℕ)
    → sets (sets l i (every_task_in image u)) (i + tasks_before image u * task_cells) (of_tasks_in image (start image u) u)
    ≡ sets l i (every_task_in image (u + 1))
unfolding every_task_in
next-tasks image l i u = join-next _ l i u (tasks_before image u * task_cells) (length-every image u)

-- a transaction's cells lie before those of all tasks
pub next-transaction :
    (image l : List ℕ) (u : ℕ) → u < transactions_most
    → sets (sets (transactions_over image u l) (header_cells + u * transaction_cells) (of_transaction (tasks_before image u) (transaction_in image (start image u))))
    (tasks_cell + tasks_before image u * task_cells)
    (of_tasks_in image (start image u) u)
    ≡ transactions_over image (u + 1) l
unfolding transactions_over
next-transaction image l u below =
    let head = of_transaction (tasks_before image u) (transaction_in image (start image u)) in
    rw (
      sets-before head (every_task_in image u) (sets l header_cells (heads_in image u)) (header_cells + u * transaction_cells) tasks_cell
          (omega (arith, length-head (tasks_before image u) (transaction_in image (start image u)))),
      next-head image l header_cells u,
    )
    (next-tasks image (sets l header_cells (heads_in image (u + 1))) tasks_cell u)
