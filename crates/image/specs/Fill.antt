-- The cells of an image's transactions and tasks, by their places in the image: what the fill writes, group by group.
use Rattle.std.specs.Prelude.{List, [], ◌∷◌, ℕ, ◌+◌, ◌*◌}
use Rattle.std.proofs.lemmas.List.Edits.{sets}
use Rattle.table.specs.Lists.{joined}
use Rattle.format.specs.Places.{head_width, task_width, start}
use Rattle.format.specs.Said.{edition_in, frame_in, count_in, modes_in, tasks_in, task_in, transaction_in, tasks_before}
use Rattle.row.specs.Row.{header_cells, tasks_cell, of_transaction, of_task}

-- n tasks of transaction u, of m modes each, the first at q
unfoldable pub tasks_cells : List ℕ → ℕ → ℕ → ℕ → ℕ → List ℕ
tasks_cells image m q u n = joined n (λ j. of_task u (task_in image m (q + j * task_width m)))

-- the first n transactions but their tasks
unfoldable pub heads_in : List ℕ → ℕ → List ℕ
heads_in image n = joined n (λ u. of_transaction (tasks_before image u) (transaction_in image (start image u)))

-- the tasks of the transaction u, which starts at p
unfoldable pub of_tasks_in : List ℕ → ℕ → ℕ → List ℕ
of_tasks_in image p u = tasks_cells image (modes_in image p) (p + head_width) u (tasks_in image p)

-- the tasks of the first n transactions
unfoldable pub every_task_in : List ℕ → ℕ → List ℕ
every_task_in image n = joined n (λ u. of_tasks_in image (start image u) u)

-- cells with the first n transactions stored, and their tasks
unfoldable pub transactions_over : List ℕ → ℕ → List ℕ → List ℕ
transactions_over image n cells = sets (sets cells header_cells (heads_in image n)) tasks_cell (every_task_in image n)

-- cells with all of these stored, and the header last
unfoldable pub filled_over : List ℕ → List ℕ → List ℕ
filled_over image cells =
    sets (transactions_over image (count_in image) cells) 0
    (edition_in image ∷ frame_in image ∷ count_in image ∷ tasks_before image (count_in image) ∷ 0 ∷ [])
