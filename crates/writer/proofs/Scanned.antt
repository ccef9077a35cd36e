-- What the scan of a row finds is what the table's rules find: where the checks before a part held, the readers give the part's
-- own numbers.
use mathlib.Core.Path.{◌≡◌, refl, sym, ap, ◌∙◌}
use mathlib.Core.List.{List}
use Prim.Native.Nat.{ℕ, ◌+◌, ◌*◌, ◌/◌, ◌^◌, ◌≤◌, ◌<◌}
use native.Mathlib.Nat.{div-eq_of_lt, div-lt_iff_lt-mul, one-mul}
use native.Mathlib.Decide.{dec_lt}
use native.Mathlib.Numerals.{add-one}
use native.Mathlib.Omega.{arith}
use lib.Dec.{ltb, eqb}
use lib.ListN.{get_or}
use lib.Pow.{pow_pos}
use borrow.Author.Tests.{lt-ltb, le-ltb, eq-eqb, ne_eqb}
use Rattle.table.specs.Limits.{limits, transactions_most, modes_most, tasks_most, tasks_in_all}
use Rattle.table.specs.Table.{Table, transactions, modes, tasks, IsTask}
use Rattle.table.specs.Number.{before, number}
use Rattle.table.specs.Fields.{HeadField, TaskField, Field, width_in_task, number_in, IsTaskField}
use Rattle.table.specs.Rules.{part, head_rules, task_rules, transaction_rules, body_rules, table_rules}
use Rattle.table.specs.Rules.Deadlines.{keepable}
use Rattle.table.specs.Sum.{greatest}
use Rattle.table.proofs.Sum.{sum-ext, sum-next, greatest-ext, greatest-sum}
use Rattle.table.proofs.Rules as rules
use Rattle.refusals.specs.Answer.{Answer, accepted, ◌then◌, first_of}
use Rattle.refusals.proofs.Findings.{then-joins, holds, then_same, first-same}
use Rattle.row.specs.Row.{task_cell, period_cell, modes_cell, has_cell, offset_cell, jitter_cell, blocking_cell, deadline_cell, priority_cell, table_of, head_cell, body_cell, time_cell}
use Rattle.row.proofs.Readers.{head-cell, body-cell, time-cell}
use Rattle.row.proofs.Held.{held-period, held-modes, held-tasks, held-offset, held-jitter, held-blocking, held-deadline, held-priority, held-time}
use Rattle.format.specs.Places.{task_at}
use Rattle.format.specs.Write.{start_of, table_look, table_fault}
use Rattle.writer.specs.Scan.{fits_at, look_at, head_number, task_number, head_look, task_look, header_fault, task_fault, head_fault, transaction_fault, body_fault}

-- a number is below 2 ^ w where shifting it down by w leaves nothing
pub none_above : (n w : ℕ) → eqb (n / 2 ^ w) 0 ≡ ltb n (2 ^ w)
none_above n w =
    elim (dec_lt n (2 ^ w)) [
      | yes below ↦ eq-eqb (n / 2 ^ w) 0 (div-eq_of_lt below) ∙ sym (lt-ltb n (2 ^ w) below)
      | no above ↦
          ne_eqb (n / 2 ^ w) 0
          (λ e.
          let below : n < 1 * 2 ^ w = (div-lt_iff_lt-mul (pow_pos w)).0 (omega (arith, e)) in
          above (rw (one-mul (2 ^ w)) at below))
          ∙ sym (le-ltb n (2 ^ w) (omega arith))
    ]

-- numbers that are the same in every field that a task of so many modes has: the same finding
task-same :
    (many : ℕ) (f g place : TaskField → ℕ)
    → ((x : TaskField) → IsTaskField many x → f x ≡ g x)
    → task_rules ◌then◌ keepable many (look_at f width_in_task place) ≡ task_rules ◌then◌ keepable many (look_at g width_in_task place)
unfolding task_rules first_of
task-same many f g place same =
    rw (
      same TaskField.offset tt,
      same TaskField.jitter tt,
      same TaskField.blocking tt,
      same TaskField.deadline tt,
      same TaskField.priority tt,
      first-same many (λ m. fits_at (f (TaskField.time m)) (width_in_task (TaskField.time m)) (place (TaskField.time m)))
          (λ m. fits_at (g (TaskField.time m)) (width_in_task (TaskField.time m)) (place (TaskField.time m)))
          (λ m below so_far. ap (λ (n : ℕ). fits_at n (width_in_task (TaskField.time m)) (place (TaskField.time m))) (same (TaskField.time m) below)),
      sum-ext many {f = λ m. f (TaskField.time m)} {g = λ m. g (TaskField.time m)} (λ m below. same (TaskField.time m) below),
      greatest-ext many {f = λ m. f (TaskField.time m)} {g = λ m. g (TaskField.time m)} (λ m below. same (TaskField.time m) below),
    )

-- a task whose numbers fit, that runs and whose deadline can be kept has no fault, wherever it would start
pub no-fault :
    (row : List ℕ) (m k : ℕ)
    → ((f : TaskField) → IsTaskField m f → task_number row k f < 2 ^ width_in_task f)
    → 1 ≤ greatest m (λ i. time_cell row k i)
    → task_number row k TaskField.offset + greatest m (λ i. time_cell row k i) ≤ task_number row k TaskField.deadline
    → (q : ℕ) → task_fault row m k q ≡ accepted
no-fault row m k small runs room q =
    rules.clear-task keepable then-joins m (task_look row k q)
    record {
      there = λ f has. holds _ _ (lt-ltb _ _ (small f has));
      due = omega (arith, runs, room);
      runs = omega (arith, runs, greatest-sum m (λ i. time_cell row k i));
      keepable = room;
    }

module _ (row : List ℕ) where
  -- ---- transaction u, which is not too many

  module _ {u : ℕ} (there : u < transactions (table_of row)) (few : u < transactions_most) where
    pub modes-there : head_cell row u modes_cell ≡ modes (table_of row) u
    modes-there = head-cell row u modes_cell few ∙ sym (held-modes row there)

    pub tasks-there : head_cell row u has_cell ≡ tasks (table_of row) u
    tasks-there = head-cell row u has_cell few ∙ sym (held-tasks row there)

    head-same : (f : HeadField) → head_number row u f ≡ number_in (table_of row) (Field.head u f)
    unfolding number_in
    head-same HeadField.period = head-cell row u period_cell few ∙ sym (held-period row there)
    head-same HeadField.modes = modes-there
    head-same HeadField.tasks = tasks-there

  -- ---- task j of it, where no count is too large

  module _ {u j : ℕ} (is : IsTask (table_of row) u j) (few : number (table_of row) u j < tasks_in_all) (narrow : modes (table_of row) u ≤ modes_most) where
    cell : (i : ℕ) → body_cell row (number (table_of row) u j) i ≡ get_or row (task_cell (number (table_of row) u j) + i) 0
    cell i = body-cell row (number (table_of row) u j) i few

    number_same : (f : TaskField) → IsTaskField (modes (table_of row) u) f → task_number row (number (table_of row) u j) f ≡ number_in (table_of row) (Field.task u j f)
    unfolding number_in
    number_same TaskField.offset has = cell offset_cell ∙ sym (held-offset row is)
    number_same TaskField.jitter has = cell jitter_cell ∙ sym (held-jitter row is)
    number_same TaskField.blocking has = cell blocking_cell ∙ sym (held-blocking row is)
    number_same TaskField.deadline has = cell deadline_cell ∙ sym (held-deadline row is)
    number_same TaskField.priority has = cell priority_cell ∙ sym (held-priority row is)
    number_same (TaskField.time m) has = time-cell row (number (table_of row) u j) m few (omega arith) ∙ sym (held-time row is has)

-- ---- what a head that has no fault says of its counts

pub record Small (row : List ℕ) (u before : ℕ) : Type 0 where
  pub modes : head_cell row u modes_cell ≤ modes_most
  pub tasks : head_cell row u has_cell ≤ tasks_most
  pub in_all : before + head_cell row u has_cell ≤ tasks_in_all

pub small : (row : List ℕ) (u before p : ℕ) → head_fault row u before p ≡ accepted → Small row u before
small row u before p clear =
    let s = rules.sound-head limits then-joins (table_of row).frame before (head_look row u p) clear in
    record { modes = s.few_modes; tasks = s.few_tasks; in_all = s.in_all }

-- ---- the table part by part: the header, then each transaction, of each its head and then its tasks

abbrev pub faults : Table → ℕ → Answer
faults tab u =
    transaction_rules ◌then◌ limits keepable tab.frame (before tab u) (part (Field.head u) (table_look tab)) (λ j. part (Field.task u j) (table_look tab))

module _ (row : List ℕ) where
  abbrev tab : Table
  tab = table_of row

  pub table-parts : table_fault tab ≡ (header_fault row then body_fault row)
  unfolding table_fault table_rules
  table-parts = refl

  pub body-parts : body_fault row ≡ first_of (transactions tab) (faults tab)
  unfolding body_rules first_of before number_in
  body-parts = refl

  pub transaction-parts :
      (u before p : ℕ)
      → transaction_fault row u before p
      ≡ (head_fault row u before p then first_of (head_cell row u has_cell) (λ j. task_fault row (head_cell row u modes_cell) (before + j) (task_at p (head_cell row u modes_cell) j)))
  unfolding transaction_rules first_of
  transaction-parts u before p = refl

  pub few-transactions : header_fault row ≡ accepted → transactions tab ≤ transactions_most
  unfolding number_in
  few-transactions clear = (rules.sound-header limits then-joins (part Field.header (table_look tab)) clear).few

  module _ {u : ℕ} (there : u < transactions tab) (few : u < transactions_most) where
    head-part :
        head_fault row u (before tab u) (start_of tab u)
        ≡ head_rules ◌then◌ limits tab.frame (before tab u) (part (Field.head u) (table_look tab))
    unfolding head_rules
    head-part = rw (head-same row there few HeadField.period, head-same row there few HeadField.modes, head-same row there few HeadField.tasks)

    pub transaction-part : transaction_fault row u (before tab u) (start_of tab u) ≡ faults tab u
    unfolding transaction_rules number_in first_of number
    transaction-part =
        rw (← head-part)
        (then_same (head_fault row u (before tab u) (start_of tab u))
        (λ clear.
        let s : Small row u (before tab u) = small row u (before tab u) (start_of tab u) clear in
        rw (modes-there row there few, tasks-there row there few)
        (first-same (tasks tab u) _ _
        (λ j within so_far.
        task-same (modes tab u) _ _ _
        (number_same row (record { owner = there; place = within }) (omega (arith, s.in_all, tasks-there row there few)) (omega (arith, s.modes, modes-there row there few)))))))

  -- the transaction behind u, and the tasks before it

  pub next_start : (u : ℕ) → start_of tab (u + 1) ≡ task_at (start_of tab u) (modes tab u) (tasks tab u)
  unfolding start_of
  next_start u = rw (add-one u)

  pub next-before : (u : ℕ) → before tab (u + 1) ≡ before tab u + tasks tab u
  unfolding before
  next-before u = sum-next u (tasks tab)
