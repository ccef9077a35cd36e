-- The cells of a task: how many there are, in which order, and where they stand among the cells that a caller lends.
use Rattle.std.specs.Prelude.{Bool, true, false, cond, List, [], ◌∷◌, map, ◌≡◌, refl, ℕ, zero, suc, ◌*◌, leb, eqb, length, get_or, take, drop}
use Rattle.std.proofs.lemmas.List.Edits.{sets}
use Rattle.analysis.specs.Answer.{Cells}

abbrev pub cells_of_task : ℕ
cells_of_task = 6

-- a task's cells in their order
unfoldable pub listed : Cells → List ℕ
listed c = c.code ∷ c.bound ∷ c.evaluations ∷ c.mode ∷ c.candidate ∷ c.job ∷ []

-- the cells of task number k
unfoldable pub cells_in : List ℕ → ℕ → List ℕ
cells_in cells k = take cells_of_task (drop (cells_of_task * k) cells)

-- and the first of them, its code
abbrev pub code_in : List ℕ → ℕ → ℕ
code_in cells k = get_or cells (cells_of_task * k) 0

-- so many cells are enough for so many tasks
abbrev pub has_room : (cells tasks : ℕ) → Bool
has_room cells tasks = leb (cells_of_task * tasks) cells

-- the cells with c as those of task number k, if they have room for it
unfoldable pub stored : List ℕ → ℕ → Cells → List ℕ
stored cells k c = cond (has_room (length cells) (suc k)) (sets cells (cells_of_task * k) (listed c)) cells

-- task number k has its cells there, and its code is 0
unfoldable pub is_kept : List ℕ → ℕ → Bool
is_kept cells k = cond (has_room (length cells) (suc k)) (eqb (code_in cells k) 0) false

-- and so has each of the first n tasks
unfoldable pub are_kept : List ℕ → (n : ℕ) → Bool
are_kept cells zero = true
are_kept cells (suc k) = cond (are_kept cells k) (is_kept cells k) false

-- S: the first two tasks keep their deadlines, the third is not shown to
S-kept :
    map (are_kept (0 ∷ 2 ∷ 3 ∷ 0 ∷ 0 ∷ 0 ∷ 0 ∷ 7 ∷ 5 ∷ 0 ∷ 1 ∷ 0 ∷ 20 ∷ 5 ∷ 6 ∷ 0 ∷ 2 ∷ 0 ∷ [])) (0 ∷ 2 ∷ 3 ∷ [])
    ≡ true ∷ true ∷ false ∷ []
unfolding are_kept is_kept
S-kept = refl

-- a third task whose last cell is missing has no cells there
no_third : map (are_kept (0 ∷ 2 ∷ 3 ∷ 0 ∷ 0 ∷ 0 ∷ 0 ∷ 7 ∷ 5 ∷ 0 ∷ 1 ∷ 0 ∷ 0 ∷ 5 ∷ 6 ∷ 0 ∷ 2 ∷ [])) (2 ∷ 3 ∷ []) ≡ true ∷ false ∷ []
unfolding are_kept is_kept
no_third = refl
