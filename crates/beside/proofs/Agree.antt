-- Document 01's cells and the plain response of the same image: where the response is within the period the bound is response plus offset,
-- unless the budget is spent; no bound is below that; and where there is no response there is no bound.
use mathlib.Core.Path.{◌≡◌, refl, sym, ap, subst, ◌∙◌}
use mathlib.Core.Logic.{inl, inr}
use mathlib.Core.List.{List}
use Prim.Native.Nat.{ℕ, ◌+◌, ◌*◌, ◌≤◌, ◌<◌}
use native.Mathlib.Omega.{arith}
use lib.ListN.{get_or}
use Rattle.refusals.specs.declared.PlainRefusal.TheVariants.{NoCompletion}
use Rattle.table.specs.Table.{Table, transactions, period, offset, deadline}
use Rattle.table.specs.Number.{in_all}
use Rattle.table.specs.Kept.{Kept}
use Rattle.table.proofs.Ranges.{period-lt}
use Rattle.format.specs.Said.{table_in}
use Rattle.format.proofs.Kept.{kept}
use Rattle.periods.specs.Charge.{imposed}
use Rattle.analysis.specs.Bound.{Bound}
use Rattle.analysis.specs.Answer as definition
use Rattle.analysis.specs.Answer.{Answers, Cells, cells}
use Rattle.told.specs.Cells.{listed, code_in}
use Rattle.told.specs.Told.{filled, Owed, Written, FillsFrom, Fills}
use Rattle.told.specs.Budget.{IsSpent}
use Rattle.told.proofs.Told.{owed-to}
use Rattle.told.proofs.Agree.{written_in, written-code}
use Rattle.jitter.specs.Plain.{Single, Completion, response_of, Never}
use Rattle.jitter.specs.Agree.{InPeriod, Agrees}
use Rattle.jitter.proofs.Number.{number-single, in-all-single}
use Rattle.jitter.proofs.Alone.{is_task}
use Rattle.jitter.proofs.Agree.{agree, not-below, never-bounded}
use Rattle.jitter.proofs.Lasts.{lasts}
use Rattle.std.specs.Prelude.{Ok}
use Rattle.beside.specs.Told.{unfit, RespondsFrom, Responds}
use Rattle.beside.specs.Agree.{bound_in, HasBound, SaysBound}

-- ---- the cells of a task of such a table

module _ {tab : Table} (keeps : Kept tab) (single : Single tab) {budget : ℕ} {before after : List ℕ} (w : Written tab budget before after) {u : ℕ} (there : u < in_all tab) where
  owner : u < transactions tab
  owner = omega (arith, in-all-single single)

  abbrev D : ℕ
  D = deadline tab u 0

  owed : Owed tab u 0 budget (w.told u)
  owed = owed-to keeps (w.each u there) (is_task keeps single owner) (number-single single owner)

  code_is : code_in after u ≡ (cells D owed.answer).code
  code_is = written-code keeps w there ∙ ap (λ (c : Cells). c.code) owed.is

  bound-is : bound_in after u ≡ (cells D owed.answer).bound
  unfolding listed
  bound-is =
      ap (λ (l : List ℕ). get_or l 1 0) (written_in keeps w there) ∙ ap (λ (c : Cells). c.bound) owed.is

  says-bound : {R n : ℕ} {by : definition.Named} → owed.answer ≡ definition.bound R n by → SaysBound after u R D
  unfolding cells
  says-bound e =
      record {
        code = code_is ∙ ap (λ (x : definition.Answer). (cells D x).code) e;
        bound = bound-is ∙ ap (λ (x : definition.Answer). (cells D x).bound) e;
      }

  -- what agrees with a bound says it, unless the budget is spent
  says : {R : ℕ} → Agrees R owed.answer → ¬ (IsSpent after u) → SaysBound after u R D
  unfolding cells
  says {R} agrees free = go owed.answer refl agrees
    where
      go : (x : definition.Answer) → owed.answer ≡ x → Agrees R x → SaysBound after u R D
      go (definition.bound Q n by) is e =
          subst (λ (Q : ℕ). SaysBound after u Q D) e (says-bound is)
      go (definition.spent n) is e = absurd (free (code_is ∙ ap (λ (x : definition.Answer). (cells D x).code) is))
      go definition.overload is e = absurd e
      go (definition.beyond n) is e = absurd e

  -- a code 0 or 20 tells of a bound, and its cell is that
  bounded : HasBound after u → Bound imposed tab u 0 (bound_in after u)
  unfolding cells
  bounded has = go owed.answers code_is bound-is
    where
      other : {code : ℕ} → code_in after u ≡ code → 20 < code → ⊥
      other e l = elim has [ inl z ↦ omega (arith, e, z, l) | inr z ↦ omega (arith, e, z, l) ]

      go : {x : definition.Answer} → Answers tab u 0 budget x → code_in after u ≡ (cells D x).code → bound_in after u ≡ (cells D x).bound → Bound imposed tab u 0 (bound_in after u)
      go (Answers.overloaded over) c b = absurd (other c (omega arith))
      go (Answers.short free needed l) c b = absurd (other c (omega arith))
      go (Answers.past free needed l) c b = absurd (other c (omega arith))
      go (Answers.kept free needed l x) c b = subst (Bound imposed tab u 0) (sym b) x.bound

-- ---- of an image

-- a task with a response, and one without
completed : {image : List ℕ} {task R : ℕ} → Responds image task (Ok R) → (t : ℕ) × Single (table_in image) × Completion (table_in image) task t × (R ≡ response_of (table_in image) task t)
completed (Responds.single ok l s (RespondsFrom.completes {t = t} c h)) = (t, s, c, refl)

unanswered : {image : List ℕ} {task : ℕ} → Responds image task (unfit NoCompletion) → Single (table_in image) × Never (table_in image) task
unanswered (Responds.single ok l s (RespondsFrom.never n)) = (s, n)

-- Where the response is within the period, the bound is response plus offset, if the budget lasts
pub cells_agree :
    {image : List ℕ} {budget task n R : ℕ} {before after : List ℕ}
    → Fills image budget before after (filled n)
    → Responds image task (Ok R)
    → task < n
    → R ≤ period (table_in image) task
    → ¬ (IsSpent after task)
    → SaysBound after task (R + offset (table_in image) task 0) (deadline (table_in image) task 0)
cells_agree {image} {task = task} {after = after} (Fills.accepted ok (FillsFrom.done w)) responds there within free =
    let tab = table_in image in
    let (t, single, done, is) = completed responds in
    let keeps = kept image ok in
    let short : InPeriod tab task t = omega (arith, is) in
    let agrees = agree keeps single (owner keeps single w there) done short (owed keeps single w there).answers in
    subst (λ (R : ℕ). SaysBound after task (R + offset tab task 0) (deadline tab task 0)) (sym is) (says keeps single w there agrees free)

-- A budget that has two evaluations for each tick of the period lasts
pub cells-last :
    {image : List ℕ} {budget task n R : ℕ} {before after : List ℕ}
    → Fills image budget before after (filled n)
    → Responds image task (Ok R)
    → task < n
    → R ≤ period (table_in image) task
    → 2 * period (table_in image) task ≤ budget
    → SaysBound after task (R + offset (table_in image) task 0) (deadline (table_in image) task 0)
cells-last {image} {task = task} {after = after} (Fills.accepted ok (FillsFrom.done w)) responds there within enough =
    let tab = table_in image in
    let (t, single, done, is) = completed responds in
    let keeps = kept image ok in
    let short : InPeriod tab task t = omega (arith, is) in
    let (m, by, answers) = lasts keeps single (owner keeps single w there) done short enough (owed keeps single w there).answers in
    subst (λ (R : ℕ). SaysBound after task (R + offset tab task 0) (deadline tab task 0)) (sym is) (says-bound keeps single w there answers)

-- and the programs' budget is such a one for any period
pub program-agrees :
    {image : List ℕ} {task n R : ℕ} {before after : List ℕ}
    → Fills image 100_000_000 before after (filled n)
    → Responds image task (Ok R)
    → task < n
    → R ≤ period (table_in image) task
    → SaysBound after task (R + offset (table_in image) task 0) (deadline (table_in image) task 0)
program-agrees {image} {task} (Fills.accepted ok (FillsFrom.done w)) responds there within =
    let (t, single, done, is) = completed responds in
    cells-last (Fills.accepted ok (FillsFrom.done w)) responds there within (omega (arith, period-lt (kept image ok) (owner (kept image ok) single w there)))

-- No bound is below that
pub cells-not-below :
    {image : List ℕ} {budget task n R : ℕ} {before after : List ℕ}
    → Fills image budget before after (filled n)
    → Responds image task (Ok R)
    → task < n
    → HasBound after task
    → R + offset (table_in image) task 0 ≤ bound_in after task
cells-not-below {image} (Fills.accepted ok (FillsFrom.done w)) responds there has =
    let (t, single, done, is) = completed responds in
    let keeps = kept image ok in
    omega (arith, is, not-below keeps single (owner keeps single w there) done (bounded keeps single w there has))

-- and where there is no response there is no bound
pub cells-never :
    {image : List ℕ} {budget task n : ℕ} {before after : List ℕ}
    → Fills image budget before after (filled n)
    → Responds image task (unfit NoCompletion)
    → task < n
    → ¬ (HasBound after task)
cells-never {image} (Fills.accepted ok (FillsFrom.done w)) responds there has =
    let (single, never) = unanswered responds in
    let keeps = kept image ok in
    never-bounded keeps single (owner keeps single w there) never (bounded keeps single w there has)
