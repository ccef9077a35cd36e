-- A greater budget alters nothing but a 23: of two results of the same call, the six cells of a task, the whole row, and the
-- host's number.
use mathlib.Core.Path.{◌≡◌, refl, sym, ap, ap₂, ◌∙◌}
use mathlib.Core.List.{List, ◌++◌}
use Prim.Native.Nat.{ℕ, ◌*◌, ◌^◌, ◌/◌, ◌≤◌, ◌<◌}
use native.Mathlib.Decide.{dec_le}
use native.Mathlib.Omega.{arith}
use lib.ListN.{drop}
use Rattle.table.specs.Table.{Table, deadline}
use Rattle.table.specs.Number.{in_all}
use Rattle.table.specs.Kept.{Kept}
use Rattle.table.proofs.Number.{number_lt}
use Rattle.table.proofs.Lists.{joined_same}
use Rattle.refusals.specs.Answer.{refused, refusal_number}
use Rattle.format.specs.Said.{table_in}
use Rattle.format.proofs.Kept.{kept}
use Rattle.analysis.specs.Answer as definition
use Rattle.analysis.specs.Answer.{Cells, cells, code_by, spent}
use Rattle.analysis.proofs.Answer.{answers-unique}
use Rattle.analysis.proofs.Budget.{answers-greater, answers-spent}
use Rattle.told.specs.Cells.{cells_of_task, listed, cells_in}
use Rattle.told.specs.Told.{Filling, filled, Owed, OwedAt, Written, FillsFrom, Fills, paired, RespondsFrom, Responds}
use Rattle.told.specs.Budget.{IsSpent, Unaltered}
use Rattle.told.proofs.Told.{owed-bound, owed-to}
use Rattle.told.proofs.Agree.{written_in, written-code, written_behind, clash, refused-unique, paired-parts}

-- ---- the six cells of a task

-- the code 23 says that the budget was spent, and nothing else does
spent-code : (D : ℕ) (x : definition.Answer) → (cells D x).code ≡ 23 → (n : ℕ) × (x ≡ spent n)
unfolding cells code_by
spent-code D (definition.bound R n by) e = absurd (go (dec_le R D) e)
  where
    go : (d : Dec (R ≤ D)) → code_by d ≡ 23 → ⊥
    go (yes l) h = omega (arith, h)
    go (no l) h = omega (arith, h)
spent-code D definition.overload e = absurd (omega (arith, e))
spent-code D (definition.beyond n) e = absurd (omega (arith, e))
spent-code D (definition.spent n) e = (n, refl)

module _ {tab : Table} (keeps : Kept tab) {k b d : ℕ} {c e : Cells} (x : OwedAt tab k b c) (y : OwedAt tab k d e) where
  abbrev D : ℕ
  D = deadline tab y.u y.a

  -- what the task is owed under the lesser budget
  under : Owed tab y.u y.a b c
  under = owed-to keeps x y.is_task y.numbered

  -- any other code, and the six cells are the same
  pub greater-owed : b ≤ d → ¬ (c.code ≡ 23) → c ≡ e
  unfolding cells
  greater-owed l other =
      let code : (n : ℕ) → ¬ (under.answer ≡ spent n) = λ n f. other (ap (λ (c : Cells). c.code) (under.is ∙ ap (cells D) f)) in
      under.is
      ∙ ap (cells D) (answers-unique keeps y.is_task (answers-greater l under.answers code) y.owed.answers)
      ∙ sym y.owed.is

  -- 23, and more evaluations are made
  pub greater-spent : b < d → c.code ≡ 23 → b < e.evaluations
  greater-spent l f =
      let (n, is) = spent-code D under.answer (ap (λ (c : Cells). c.code) (sym under.is) ∙ f) in
      rw y.owed.is (answers-spent l D (rw is at under.answers) y.owed.answers)

-- ---- the row

module _ {tab : Table} (keeps : Kept tab) {b d : ℕ} (l : b ≤ d) {before raw after other : List ℕ} (w : Written tab b before after) (v : Written tab d raw other) where
  -- whatever was lent
  written-cells : (k : ℕ) → k < in_all tab → ¬ (IsSpent after k) → listed (v.told k) ≡ listed (w.told k)
  written-cells k h free =
      ap listed (sym (greater-owed keeps (w.each k h) (v.each k h) l (λ f. free (written-code keeps w h ∙ f))))

  written-each : (k : ℕ) → k < in_all tab → ¬ (IsSpent after k) → cells_in other k ≡ cells_in after k
  written-each k h free = written_in keeps v h ∙ written-cells k h free ∙ sym (written_in keeps w h)

unaltered : {tasks : ℕ} {row other : List ℕ} → other ≡ row → Unaltered tasks row other
unaltered {tasks} e =
    record {
      each = λ k h free. ap (λ (cells : List ℕ). cells_in cells k) e;
      behind = ap (drop (cells_of_task * tasks)) e;
    }

module _ {image : List ℕ} {b d : ℕ} (l : b ≤ d) {before after other : List ℕ} where
  -- the answer is the same, and no task's cells are altered unless its code was 23, nor any cell behind
  pub greater-row : {r q : Filling} → Fills image b before after r → Fills image d before other q → (r ≡ q) × Unaltered (in_all (table_in image)) after other
  greater-row (Fills.refused h e) (Fills.refused k f) =
      let (s, t) = refused-unique image h k in
      (ap₂ refused s t, unaltered (f ∙ sym e))
  greater-row (Fills.refused h e) (Fills.accepted ok f) = absurd (clash image h ok)
  greater-row (Fills.accepted ok f) (Fills.refused h e) = absurd (clash image h ok)
  greater-row (Fills.accepted ok (FillsFrom.short h e)) (Fills.accepted yet (FillsFrom.short k f)) = (refl, unaltered (f ∙ sym e))
  greater-row (Fills.accepted ok (FillsFrom.short h e)) (Fills.accepted yet (FillsFrom.done v)) = absurd (omega (arith, v.room))
  greater-row (Fills.accepted ok (FillsFrom.done w)) (Fills.accepted yet (FillsFrom.short k f)) = absurd (omega (arith, w.room))
  greater-row (Fills.accepted ok (FillsFrom.done w)) (Fills.accepted yet (FillsFrom.done v)) =
      let keeps = kept image ok in
      (refl, record { each = written-each keeps l w v; behind = written_behind keeps v ∙ sym (written_behind keeps w) })

  -- where no task has 23 the greater budget leaves the same row
  pub greater-same :
      {n m : ℕ}
      → Fills image b before after (filled n)
      → Fills image d before other (filled m)
      → ((k : ℕ) → k < in_all (table_in image) → ¬ (IsSpent after k))
      → other ≡ after
  greater-same (Fills.accepted ok (FillsFrom.done w)) (Fills.accepted yet (FillsFrom.done v)) free =
      v.is
      ∙ ap (λ (cells : List ℕ). cells ++ drop (cells_of_task * in_all (table_in image)) before)
      (joined_same (in_all (table_in image)) _ _ (λ k h. written-cells (kept image ok) l w v k h (free k h)))
      ∙ sym w.is

-- whatever cells were lent, those of a task are altered only if its code was 23
pub greater-cells :
    {image : List ℕ} {b d n m : ℕ} {before raw after other : List ℕ}
    → b ≤ d
    → Fills image b before after (filled n)
    → Fills image d raw other (filled m)
    → (k : ℕ)
    → k < n
    → ¬ (IsSpent after k)
    → cells_in other k ≡ cells_in after k
greater-cells {image} l (Fills.accepted ok (FillsFrom.done w)) (Fills.accepted yet (FillsFrom.done v)) = written-each (kept image ok) l w v

-- ---- the host's number

greater-from :
    {tab : Table}
    → Kept tab
    → {task b d r q : ℕ}
    → b ≤ d
    → RespondsFrom tab task b r
    → RespondsFrom tab task d q
    → ¬ (r / 2 ^ 32 ≡ 23)
    → q ≡ r
greater-from keeps l (RespondsFrom.unknown h) (RespondsFrom.unknown k) free = refl
greater-from {tab} keeps l (RespondsFrom.unknown h) (RespondsFrom.told y) free = absurd (omega (arith, number_lt tab y.is_task, y.numbered))
greater-from {tab} keeps l (RespondsFrom.told x) (RespondsFrom.unknown k) free = absurd (omega (arith, number_lt tab x.is_task, x.numbered))
greater-from keeps l (RespondsFrom.told {c = c} x) (RespondsFrom.told y) free =
    let small = owed-bound keeps x.is_task x.owed in
    ap (λ (c : Cells). paired c.code c.bound)
    (sym (greater-owed keeps x y l (λ f. free ((paired-parts c.code c.bound small).0 ∙ f))))

-- it is the same unless its code was 23
pub greater-number :
    {image : List ℕ} {task b d r q : ℕ}
    → b ≤ d
    → Responds image task b r
    → Responds image task d q
    → ¬ (r / 2 ^ 32 ≡ 23)
    → q ≡ r
greater-number {image} l (Responds.refused h) (Responds.refused k) free =
    let (s, t) = refused-unique image k h in
    ap₂ paired (ap refusal_number s) t
greater-number {image} l (Responds.refused h) (Responds.accepted ok y) free = absurd (clash image h ok)
greater-number {image} l (Responds.accepted ok x) (Responds.refused h) free = absurd (clash image h ok)
greater-number {image} l (Responds.accepted ok x) (Responds.accepted yet y) free = greater-from (kept image ok) l x y free
