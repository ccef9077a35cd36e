-- What the fill leaves, group by group, is the row of the table that the image says.
use mathlib.Core.Path.{◌≡◌, refl, sym, ap, ◌∙◌}
use mathlib.Core.List.{List, [], ◌∷◌, ◌++◌}
use Prim.Native.Nat.{ℕ, ◌*◌, ◌≤◌, ◌<◌}
use native.Mathlib.Omega.{arith}
use lib.ListN.{length, take, drop}
use Rattle.std.proofs.lemmas.List.{take-append-drop, length-take-le}
use lib.Seq.{sets, length-sets}
use Rattle.table.specs.Table.{Table, transactions, transaction, tasks, task}
use Rattle.table.specs.Limits.{transactions_most, tasks_in_all}
use Rattle.table.specs.Number.{before}
use Rattle.table.specs.Lists.{joined, padded}
use Rattle.format.specs.Places.{start}
use Rattle.format.specs.Said.{edition_in, frame_in, count_in, tasks_in, table_in, tasks_before}
use Rattle.row.specs.Row.{header_cells, transaction_cells, task_cells, tasks_cell, row_cells, of_transaction, of_task, of_header, row_of, empty_row}
use Rattle.image.specs.Fill.{tasks_cells, heads_in, of_tasks_in, every_task_in, transactions_over, filled_over}
use Rattle.format.specs.Fault.{IsAccepted}
use Rattle.table.proofs.Lists.{joined_same, length-padded, padded-again, sets-padded, sets_first}
use Rattle.format.proofs.Accepted.{header, few-tasks}
use Rattle.image.proofs.Cells.{length-heads, length-every}
use Rattle.format.proofs.Said.{said-edition, said-frame, said-transactions, said-transaction, said-tasks, said-task, said-before, said-in-all}

-- a header of zeros
abbrev blank : List ℕ
blank = 0 ∷ 0 ∷ 0 ∷ 0 ∷ 0 ∷ []

blank-row : empty_row ≡ padded row_cells blank
unfolding padded
blank-row = refl

header-last :
    (e f n t : ℕ) (xs ys : List ℕ)
    → sets (padded row_cells (padded tasks_cell (blank ++ xs) ++ ys)) 0 (e ∷ f ∷ n ∷ t ∷ 0 ∷ [])
    ≡ padded row_cells (padded tasks_cell ((e ∷ f ∷ n ∷ t ∷ 0 ∷ []) ++ xs) ++ ys)
unfolding padded
header-last e f n t xs ys = refl

-- a row of zeros with transactions and tasks put in, and the header last
row-filled :
    (e f n t : ℕ) (xs ys : List ℕ)
    → length xs ≤ transactions_most * transaction_cells
    → length ys ≤ tasks_in_all * task_cells
    → sets (sets (sets empty_row header_cells xs) tasks_cell ys) 0 (e ∷ f ∷ n ∷ t ∷ 0 ∷ [])
    ≡ padded row_cells (padded tasks_cell ((e ∷ f ∷ n ∷ t ∷ 0 ∷ []) ++ xs) ++ ys)
row-filled e f n t xs ys short few =
    let front = padded tasks_cell (blank ++ xs) in
    let wide : length front ≡ tasks_cell = length-padded tasks_cell (blank ++ xs) (omega arith) in
    let one : sets empty_row header_cells xs ≡ padded row_cells (blank ++ xs) =
    rw blank-row (sets-padded row_cells blank xs (omega arith)) in
    let two : padded row_cells (blank ++ xs) ≡ padded row_cells front =
    sym (padded-again row_cells tasks_cell (blank ++ xs) (omega arith) (omega arith)) in
    let three : sets (padded row_cells front) tasks_cell ys ≡ padded row_cells (front ++ ys) =
    rw wide at (sets-padded row_cells front ys (omega arith)) in
    rw (one, two, three) (header-last e f n t xs ys)

module _ (image : List ℕ) where
  abbrev tab : Table
  tab = table_in image

  said-heads : heads_in image (count_in image) ≡ joined (transactions tab) (λ u. of_transaction (before tab u) (transaction tab u))
  unfolding heads_in
  said-heads =
      rw (said-transactions image)
      (joined_same (count_in image) _ _
      (λ u below. rw (said-before image u (omega arith), said-transaction image u below)))

  said-tasks-of : (u : ℕ) → u < count_in image → of_tasks_in image (start image u) u ≡ joined (tasks tab u) (λ j. of_task u (task tab u j))
  unfolding of_tasks_in tasks_cells
  said-tasks-of u below =
      rw (said-tasks image u below)
      (joined_same (tasks_in image (start image u)) _ _ (λ j within. rw (said-task image u j below within)))

  said-every : every_task_in image (count_in image) ≡ joined (transactions tab) (λ u. joined (tasks tab u) (λ j. of_task u (task tab u j)))
  unfolding every_task_in
  said-every = rw (said-transactions image) (joined_same (count_in image) _ _ said-tasks-of)

  said-header : of_header tab ≡ edition_in image ∷ frame_in image ∷ count_in image ∷ tasks_before image (count_in image) ∷ 0 ∷ []
  unfolding of_header
  said-header = cc (said-edition image, said-frame image, said-transactions image, said-in-all image)

  module _ (ok : IsAccepted image) where
    few-heads : length (heads_in image (count_in image)) ≤ transactions_most * transaction_cells
    few-heads = rw (length-heads image (count_in image)) (omega (arith, (header image ok).few))

    few-every : length (every_task_in image (count_in image)) ≤ tasks_in_all * task_cells
    few-every = rw (length-every image (count_in image)) (omega (arith, few-tasks image ok))

    -- into a row of zeros
    pub filled : filled_over image empty_row ≡ row_of tab
    unfolding row_of filled_over transactions_over
    filled =
        row-filled (edition_in image) (frame_in image) (count_in image) (tasks_before image (count_in image))
        (heads_in image (count_in image))
        (every_task_in image (count_in image))
        few-heads
        few-every
        ∙ rw (said-heads, said-every, said-header)

    -- into the front of longer cells: those behind the row stay
    pub filled-front : (cells rest : List ℕ) → length cells ≡ row_cells → filled_over image (cells ++ rest) ≡ filled_over image cells ++ rest
    unfolding filled_over transactions_over
    filled-front cells rest long =
        let heads = heads_in image (count_in image) in
        let every = every_task_in image (count_in image) in
        let one = sets cells header_cells heads in
        let one-long : length one ≡ row_cells = length-sets cells header_cells heads ∙ long in
        let two-long : length (sets one tasks_cell every) ≡ row_cells = length-sets one tasks_cell every ∙ one-long in
        rw (
          sets_first heads cells rest header_cells (omega (arith, few-heads)),
          sets_first every one rest tasks_cell (omega (arith, few-every)),
          sets_first (edition_in image ∷ frame_in image ∷ count_in image ∷ tasks_before image (count_in image) ∷ 0 ∷ []) (sets one tasks_cell every) rest 0 (omega arith),
        )

    -- a row in front of cells, filled and put back
    pub filled-chunk : (cells row : List ℕ) → row_cells ≤ length cells → row ≡ take row_cells cells → filled_over image row ++ drop row_cells cells ≡ filled_over image cells
    filled-chunk cells row enough front =
        rw front
        (sym (filled-front (take row_cells cells) (drop row_cells cells) (length-take-le row_cells cells enough))
        ∙ ap (filled_over image) (take-append-drop row_cells cells))
