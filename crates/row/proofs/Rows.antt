-- The row of a table that keeps its bounds holds that table, and numbers its tasks.
use mathlib.Core.Path.{◌≡◌, refl, sym, ap, ◌∙◌}
use mathlib.Core.List.{List, [], ◌∷◌, ◌++◌}
use Prim.Native.Nat.{ℕ, zero, suc, ◌+◌, ◌*◌, ◌≤◌, ◌<◌}
use native.Mathlib.Nat.{add_assoc, add-mul}
use native.Mathlib.Omega.{arith}
use lib.ListN.{length, get_or, length-append, get_or-append}
use lib.Seq.{get_or-append-add, ext_get_or}
use Rattle.table.specs.Sum.{sum}
use Rattle.table.specs.Table.{Task, Transaction, Table, transactions, transaction, no_transaction, tasks, task, no_task, IsTask}
use Rattle.table.specs.Number.{before, in_all, number}
use Rattle.table.specs.Limits.{modes_most}
use Rattle.table.specs.Kept.{KeptTask, Kept}
use Rattle.table.specs.Lists.{list_of, joined, padded}
use Rattle.row.specs.Row.{header_cells, transaction_cells, task_cells, tasks_cell, row_cells, edition_cell, frame_cell, count_cell, in_all_cell, transaction_cell, period_cell, modes_cell, first_cell, has_cell, task_cell, owner_cell, times_cell, of_transaction, of_task, of_header, row_of, task_of, tasks_before, transaction_of, table_of}
use Rattle.table.proofs.Sum.{sum-ext}
use Rattle.table.proofs.Lists.{length-list_of, get_or-list_of, length-joined, get_or-joined, length-padded, get_or-padded}

-- the cells of a transaction, and of a task, are as many as its part of the row has

pub length-head : (first : ℕ) (x : Transaction) → length (of_transaction first x) ≡ transaction_cells
unfolding of_transaction
length-head first x = refl

pub length-task : (u : ℕ) (t : Task) → length (of_task u t) ≡ task_cells
unfolding of_task
length-task u t = rw (length-list_of)

-- a list is its elements, by their index
pub listed {ℓ} : {A : Type ℓ} (n : ℕ) (f : ℕ → A) (l : List A) (d : A) → n ≡ length l → ((k : ℕ) → k < n → f k ≡ get_or l k d) → list_of n f ≡ l
listed n f l d long each =
    ext_get_or d (list_of n f) l (length-list_of n f ∙ long)
    (λ k h.
    let below : k < n = rw (length-list_of n f) at h in
    get_or-list_of n f k d below ∙ each k below)

-- the cells of a task before its times
abbrev before_times : ℕ → Task → List ℕ
before_times u t = t.offset ∷ t.jitter ∷ t.blocking ∷ t.deadline ∷ t.priority ∷ u ∷ []

module _ (tab : Table) where
  abbrev heads_of : ℕ → List ℕ
  heads_of u = of_transaction (before tab u) (transaction tab u)

  abbrev tasks_of : ℕ → List ℕ
  tasks_of u = joined (tasks tab u) (λ j. of_task u (task tab u j))

  abbrev front : List ℕ
  front = of_header tab ++ joined (transactions tab) heads_of

  length-heads_of : (u : ℕ) → length (joined u heads_of) ≡ u * transaction_cells
  length-heads_of u = length-joined u transaction_cells heads_of (λ v h. length-head (before tab v) (transaction tab v))

  length-tasks-of : (u j : ℕ) → length (joined j (λ i. of_task u (task tab u i))) ≡ j * task_cells
  length-tasks-of u j = length-joined j task_cells _ (λ i h. length-task u (task tab u i))

  length-tasks_of : (u : ℕ) → length (joined u tasks_of) ≡ before tab u * task_cells
  unfolding joined before sum
  length-tasks_of zero = refl
  length-tasks_of (suc u) = rw (length-append, length-tasks_of u, length-tasks-of u (tasks tab u), add-mul)

  length_front : length front ≡ header_cells + transactions tab * transaction_cells
  unfolding of_header
  length_front = rw (length-append (of_header tab), length-heads_of (transactions tab))

  module _ (kept : Kept tab) where
    wide : length (padded tasks_cell front) ≡ tasks_cell
    wide = length-padded tasks_cell front (omega (arith, length_front, kept.few_transactions))

    -- the cells before the tasks, and those of the tasks

    in-front : (i : ℕ) → i < tasks_cell → get_or (row_of tab) i 0 ≡ get_or front i 0
    unfolding row_of
    in-front i h =
        get_or-padded row_cells _ i
        ∙ get_or-append (padded tasks_cell front) _ 0 i (rw wide h)
        ∙ get_or-padded tasks_cell front i

    behind : (i : ℕ) → get_or (row_of tab) (tasks_cell + i) 0 ≡ get_or (joined (transactions tab) tasks_of) i 0
    unfolding row_of
    behind i =
        get_or-padded row_cells _ (tasks_cell + i)
        ∙ (rw wide at (get_or-append-add (padded tasks_cell front) (joined (transactions tab) tasks_of) i 0))

    -- a row has its cells and no more
    pub row-size : length (row_of tab) ≡ row_cells
    unfolding row_of in_all
    row-size =
        length-padded row_cells _
        (rw (length-append (padded tasks_cell front), wide, length-tasks_of (transactions tab)) (omega (arith, kept.few_tasks)))

    pub row-in-all : get_or (row_of tab) in_all_cell 0 ≡ in_all tab
    unfolding of_header
    row-in-all = in-front in_all_cell (omega arith)

    row-head :
        (u i : ℕ)
        → u < transactions tab
        → i < transaction_cells
        → get_or (row_of tab) (transaction_cell u + i) 0 ≡ get_or (heads_of u) i 0
    unfolding of_header
    row-head u i below within =
        let here : i < length (heads_of u) = rw (length-head (before tab u) (transaction tab u)) within in
        let after : get_or front (transaction_cell u + i) 0 ≡ get_or (joined (transactions tab) heads_of) (u * transaction_cells + i) 0 =
        rw (add_assoc header_cells (u * transaction_cells) i)
        (get_or-append-add (of_header tab) (joined (transactions tab) heads_of) (u * transaction_cells + i) 0) in
        in-front (transaction_cell u + i) (omega (arith, kept.few_transactions))
        ∙ after
        ∙ (rw (length-heads_of u) at (get_or-joined (transactions tab) u i heads_of below here))

    pub row_first : (u : ℕ) → u < transactions tab → get_or (row_of tab) (transaction_cell u + first_cell) 0 ≡ before tab u
    unfolding of_transaction
    row_first u below = row-head u first_cell below (omega arith)

    -- the cells of a task, by its number
    row-task :
        (u j i : ℕ)
        → IsTask tab u j
        → i < task_cells
        → get_or (row_of tab) (task_cell (number tab u j) + i) 0 ≡ get_or (of_task u (task tab u j)) i 0
    unfolding number
    row-task u j i is within =
        let inner : ℕ = j * task_cells + i in
        let here : i < length (of_task u (task tab u j)) = rw (length-task u (task tab u j)) within in
        let place : task_cell (before tab u + j) + i ≡ tasks_cell + (before tab u * task_cells + inner) = omega arith in
        let room : inner < length (tasks_of u) = rw (length-tasks-of u (tasks tab u)) (omega (arith, is.place)) in
        let outside : get_or (joined (transactions tab) tasks_of) (before tab u * task_cells + inner) 0 ≡ get_or (tasks_of u) inner 0 =
        rw (length-tasks_of u) at (get_or-joined (transactions tab) u inner tasks_of is.owner room) in
        let inside : get_or (tasks_of u) inner 0 ≡ get_or (of_task u (task tab u j)) i 0 =
        rw (length-tasks-of u j) at (get_or-joined (tasks tab u) j i (λ k. of_task u (task tab u k)) is.place here) in
        ap (λ (k : ℕ). get_or (row_of tab) k 0) place ∙ behind (before tab u * task_cells + inner) ∙ outside ∙ inside

    pub row-owner : (u j : ℕ) → IsTask tab u j → get_or (row_of tab) (task_cell (number tab u j) + owner_cell) 0 ≡ u
    unfolding of_task
    row-owner u j is = row-task u j owner_cell is (omega arith)

    kept-task : (u j : ℕ) → IsTask tab u j → KeptTask (transaction tab u).modes (task tab u j)
    unfolding task tasks
    kept-task u j is = (kept.each u is.owner).each j is.place

    -- the time of mode m, among the cells of a task
    time-cell : (u j m : ℕ) → m < modes_most → get_or (of_task u (task tab u j)) (times_cell + m) 0 ≡ get_or (task tab u j).times m 0
    unfolding of_task
    time-cell u j m few =
        get_or-append-add (before_times u (task tab u j)) (list_of modes_most (λ k. get_or (task tab u j).times k 0)) m 0
        ∙ get_or-list_of modes_most (λ k. get_or (task tab u j).times k 0) m 0 few

    same-times :
        (u j : ℕ)
        → IsTask tab u j
        → list_of (transaction tab u).modes (λ m. get_or (row_of tab) (task_cell (number tab u j) + (times_cell + m)) 0)
        ≡ (task tab u j).times
    unfolding of_task
    same-times u j is =
        listed (transaction tab u).modes _ (task tab u j).times 0 (sym (kept-task u j is).times)
        (λ m below.
        let few : m < modes_most = omega (arith, (kept.each u is.owner).few_modes) in
        row-task u j (times_cell + m) is (omega arith)
        ∙ time-cell u j m few)

    same-task : (u j : ℕ) → IsTask tab u j → task_of (row_of tab) (transaction tab u).modes (number tab u j) ≡ task tab u j
    unfolding task_of of_task
    same-task u j is =
        λ i.
        record {
          offset = row-task u j 0 is (omega arith) i;
          jitter = row-task u j 1 is (omega arith) i;
          blocking = row-task u j 2 is (omega arith) i;
          deadline = row-task u j 3 is (omega arith) i;
          priority = row-task u j 4 is (omega arith) i;
          times = same-times u j is i;
        }

    same-tasks :
        (u : ℕ)
        → u < transactions tab
        → list_of (tasks tab u) (λ j. task_of (row_of tab) (transaction tab u).modes (before tab u + j)) ≡ (transaction tab u).tasks
    unfolding tasks task number
    same-tasks u below =
        listed (tasks tab u) _ (transaction tab u).tasks no_task refl
        (λ j within. same-task u j (record { owner = below; place = within }))

    -- the counts in the row say how many tasks stand before a transaction
    row_before : (u : ℕ) → u ≤ transactions tab → tasks_before (row_of tab) u ≡ before tab u
    unfolding tasks_before before tasks of_transaction
    row_before u h = sum-ext u (λ v below. row-head v has_cell (omega arith) (omega arith))

    same-transaction : (u : ℕ) → u < transactions tab → transaction_of (row_of tab) u ≡ transaction tab u
    unfolding transaction_of of_transaction tasks
    same-transaction u below =
        let row = row_of tab in
        let cell = transaction_cell u in
        let modes : get_or row (cell + modes_cell) 0 ≡ (transaction tab u).modes = row-head u modes_cell below (omega arith) in
        let count : get_or row (cell + has_cell) 0 ≡ tasks tab u = row-head u has_cell below (omega arith) in
        let listed-tasks :
        list_of (get_or row (cell + has_cell) 0) (λ j. task_of row (get_or row (cell + modes_cell) 0) (tasks_before row u + j))
        ≡ (transaction tab u).tasks =
        rw (count, modes, row_before u (omega arith)) (same-tasks u below) in
        λ i.
        record {
          period = row-head u period_cell below (omega arith) i;
          modes = modes i;
          tasks = listed-tasks i;
        }

    row_count : get_or (row_of tab) count_cell 0 ≡ transactions tab
    unfolding of_header
    row_count = in-front count_cell (omega arith)

    same-transactions : list_of (get_or (row_of tab) count_cell 0) (transaction_of (row_of tab)) ≡ tab.transactions
    unfolding transactions transaction
    same-transactions =
        listed (get_or (row_of tab) count_cell 0) (transaction_of (row_of tab)) tab.transactions no_transaction row_count
        (λ u below. same-transaction u (rw row_count at below))

    -- the row of a table holds that table
    pub row-holds : table_of (row_of tab) ≡ tab
    unfolding table_of of_header
    row-holds =
        λ i.
        record {
          edition = in-front edition_cell (omega arith) i;
          frame = in-front frame_cell (omega arith) i;
          transactions = same-transactions i;
        }
