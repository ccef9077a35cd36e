-- What a caller is told of one task by one walk: its cells, what its bound is made of, and in lent cells what each other transaction
-- charges until the completion and how each task of its own transaction stands from the critical instant on.
use Rattle.std.specs.Prelude.{◌≡◌, refl, cond, List, [], ◌∷◌, ◌++◌, map, ltb, take, drop, replicate, Some, None, Result, Ok, Err, OnErr, ℕ, zero, suc, ◌+◌, ◌*◌, ◌<◌}
use Rattle.std.proofs.lemmas.List.Edits.{sets}
use Rattle.std.proofs.Math.Decide.{ℕ_discrete}
use Rattle.refusals.specs.declared.Fault.{Fault}
use Rattle.table.specs.Limits.{transactions_most, tasks_most}
use Rattle.table.specs.Table.{Table, transactions, tasks}
use Rattle.table.specs.Sample.{S, plain, task, transaction, table}
use Rattle.periods.specs.Charge.{imposed}
use Rattle.analysis.specs.Choice.{when}
use Rattle.analysis.specs.Rival.{rival?}
use Rattle.analysis.specs.Charge.{phase_of, held_of, task_charge}
use Rattle.analysis.specs.Order.{Turn, Source}
use Rattle.analysis.specs.Who.{most_charged}
use Rattle.analysis.specs.Parts.{MadeOf}
use Rattle.analysis.specs.Answer.{Answer, bound, named, Answers}
use Rattle.analysis.specs.Walk.{answer}
use Rattle.analysis.specs.Computing.{computing}
use Rattle.told.specs.declared.TaskCells.{TaskCells}
use Rattle.told.specs.Answered.{cells_meant}
use Rattle.told.specs.Told.{Owed}
use Rattle.parts.specs.declared.Parts.{Parts}
use Rattle.parts.specs.declared.Part.{Part}
use Rattle.parts.specs.declared.Part.TheVariants as part
use Rattle.parts.specs.Parts.{Made, OfImage, OfTask, NoBound, parts_meant, ChargedBy, part_said, charge_listed}
use Rattle.account.specs.declared.Share.{Share}
use Rattle.account.specs.declared.Account.{Account}

-- ---- the lent cells

-- three for each transaction of a table, and behind these three for each task of one transaction
abbrev pub group_cells : ℕ
group_cells = 3

abbrev pub charges_cell : ℕ
charges_cell = 0

abbrev pub shares_cell : ℕ
shares_cell = charges_cell + group_cells * transactions_most

abbrev pub account_cells : ℕ
account_cells = shares_cell + group_cells * tasks_most

-- group i of so many from `at` on; where there is none of that number, every cell stays
unfoldable pub stored : (at count i : ℕ) (group before : List ℕ) → List ℕ
stored at count i group before = cond (ltb i count) (sets before (at + group_cells * i) group) before

-- n groups one behind the other from `at` on; one that has nothing in it leaves its cells
unfoldable pub laid : (at n : ℕ) (group : ℕ → List ℕ) (before : List ℕ) → List ℕ
laid at zero group before = before
laid at (suc n) group before = sets (laid at n group before) (at + group_cells * n) (group n)

-- what a transaction charges, with who gives it, where it charges
abbrev pub charge_cells : Part → List ℕ
charge_cells part.NoBound = []
charge_cells part.Own = []
charge_cells part.NoTransaction = []
charge_cells part.NoRivals = []
charge_cells (part.Charged c) = charge_listed c

abbrev pub charge_cells_of : Result Part Fault → List ℕ
charge_cells_of (Ok p) = charge_cells p
charge_cells_of (Err f) = []

abbrev pub share_cells : Share → List ℕ
share_cells s = s.phase ∷ s.held ∷ s.ticks ∷ []

-- ---- what is told

-- how task j of u stands when x sets the critical instant, and what it charges task a until w
unfoldable pub share_of : Table → (u a : ℕ) (x : Turn) (w j : ℕ) → Share
share_of tab u a x w j =
    record {
      phase = phase_of tab u x.candidate j;
      held = held_of tab u x.candidate j;
      ticks = when (rival? tab u a u x.mode j) (task_charge imposed tab u x.mode x.candidate w j);
    }

-- One transaction, T 10: task 1, at offset 3 with jitter 22, is a rival of task 0. When task 0 sets the instant, two of its jobs are held
-- back to it, and until the completion at 7 a third is charged; task 0 is none of its own rivals
abbrev delayed : Table
delayed = table 10 (transaction 10 1 (plain 0 1 1 10 ∷ task 3 22 0 10 2 (2 ∷ []) ∷ []) ∷ [])

delayed-bound : answer imposed delayed 0 0 20 ≡ bound 7 11 (record { mode = 0; candidate = 0; job = 0 })
unfolding computing
delayed-bound = refl

delayed-shares : map (λ (j : ℕ). share_cells (share_of delayed 0 0 (record { mode = 0; candidate = 0 }) 7 j)) (0 ∷ 1 ∷ []) ≡ (0 ∷ 0 ∷ 0 ∷ []) ∷ (3 ∷ 2 ∷ 6 ∷ []) ∷ []
unfolding computing share_of
delayed-shares = refl

-- the cells were `before` and are `after`: what each other transaction charges task a of u until w, and how each task of u stands
pub record Lays (tab : Table) (u a : ℕ) (x : Turn) (w : ℕ) (before after : List ℕ) : Type 0 where
  pub charges : ℕ → Part
  pub each : (i : ℕ) → i < transactions tab → ChargedBy imposed i w tab u a (charges i)
  pub is :
      after
      ≡ laid shares_cell (tasks tab u) (λ j. share_cells (share_of tab u a x w j))
      (laid charges_cell (transactions tab) (λ i. charge_cells (charges i)) before)

-- Computed: who charges most; and the cells after it
unfoldable pub unless_own : {A : Type 0} → Dec A → Part → Part
unless_own (yes h) r = part.Own
unless_own (no h) r = r

unfoldable pub charge_of : Table → (u a w i : ℕ) → Part
charge_of tab u a w i = unless_own (ℕ_discrete i u) (part_said tab i (most_charged imposed tab u a i w))

unfoldable pub laid_for : Table → (u a : ℕ) (x : Turn) (w : ℕ) (before : List ℕ) → List ℕ
laid_for tab u a x w before =
    laid shares_cell (tasks tab u) (λ j. share_cells (share_of tab u a x w j))
    (laid charges_cell (transactions tab) (λ i. charge_cells (charge_of tab u a w i)) before)

-- S, task 2, which completes at 5: transaction 0 charges 3 in mode 0, with task 0 as candidate; the cells of its own transaction, and of
-- further ones, stay, and it is no rival of itself
abbrev cells_s : List ℕ
cells_s = laid_for S 1 0 (record { mode = 0; candidate = 0 }) 5 (replicate account_cells 9)

S-laid : take 7 cells_s ++ take 4 (drop shares_cell cells_s) ≡ 3 ∷ 0 ∷ 0 ∷ 9 ∷ 9 ∷ 9 ∷ 9 ∷ 0 ∷ 0 ∷ 0 ∷ 9 ∷ []
unfolding computing part_said laid share_of unless_own charge_of laid_for
S-laid = refl

-- task a of u with its cells, and the lent ones after: it has no bound, and they stay; or it has one, of these parts
pub data AccountFor (budget : ℕ) (before : List ℕ) (tab : Table) (u a : ℕ) : Account × List ℕ → Type 0 where
  unbounded :
      {c : TaskCells} {x : Answer}
      → Owed tab u a budget (cells_meant c)
      → Answers tab u a budget x
      → NoBound x
      → AccountFor budget before tab u a (record { cells = c; parts = None }, before)
  bounded :
      {R n : ℕ} {x : Source} {c : TaskCells} {p : Parts} {after : List ℕ}
      → Owed tab u a budget (cells_meant c)
      → Answers tab u a budget (bound R n (named tab u x))
      → MadeOf tab u a R x (parts_meant p)
      → Lays tab u a x.turn p.completion before after
      → AccountFor budget before tab u a (record { cells = c; parts = Some p }, after)

-- the answer, with the cells after it where there are any
abbrev pub with_cells : List ℕ → Result Account Fault → Result (Account × List ℕ) Fault
with_cells after (Ok x) = Ok (x, after)
with_cells after (Err f) = Err f

-- Accounts image task budget before after r: of that task r is told, and the lent cells were `before` and are `after`. A refusal leaves
-- every cell
pub record Accounts (image : List ℕ) (task budget : ℕ) (before after : List ℕ) (r : Result Account Fault) : Type 0 where
  pub told : OfImage (OfTask (AccountFor budget before) task) image (with_cells after r)
  pub stays : OnErr r (after ≡ before)

-- ---- as the other calls tell it

-- what is told of its bound
unfoldable pub made_in : Result Account Fault → Made
made_in (Ok x) = Ok x.parts
made_in (Err f) = Err f

-- of the task's cells, if they are told
unfoldable pub OfCells : Result Account Fault → (TaskCells → Type 0) → Type 0
OfCells (Ok x) P = P x.cells
OfCells (Err f) P = Unit {0}
