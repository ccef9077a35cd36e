-- The contracts of `cells` and `sumpcandle_response` fix every result, and the two agree: whatever they allow of one image,
-- lent cells and budget is one answer, one row of cells and one number.
use mathlib.Core.Path.{◌≡◌, refl, sym, ap, ap₂, ◌∙◌}
use mathlib.Core.List.{List, ◌++◌}
use Prim.Native.Nat.{ℕ, ◌+◌, ◌*◌, ◌^◌, ◌/◌, ◌%◌, ◌<◌}
use native.Mathlib.Omega.{arith}
use lib.ListN.{get_or, drop}
use lib.Seq.{get_or-take, get_or-drop, drop_at}
use Rattle.table.specs.Table.{Table}
use Rattle.table.specs.Number.{in_all}
use Rattle.table.specs.Lists.{joined}
use Rattle.table.specs.Kept.{Kept}
use Rattle.table.proofs.Number.{number_lt}
use Rattle.table.proofs.Lists.{joined_same}
use Rattle.refusals.specs.declared.Refusal.{Refusal}
use Rattle.refusals.specs.declared.Fault.{Fault}
use Rattle.refusals.specs.Answer.{refused, fault_at, refusal_number}
use Rattle.format.specs.Fault.{image_fault, IsAccepted}
use Rattle.format.specs.Said.{table_in}
use Rattle.format.proofs.Kept.{kept}
use Rattle.analysis.specs.Answer.{Cells}
use Rattle.told.specs.Cells.{cells_of_task, listed, cells_in, code_in}
use Rattle.told.specs.Told.{Filling, filled, filled_number, filled_place, OwedAt, Written, FillsFrom, Fills, paired, RespondsFrom, Responds}
use Rattle.told.proofs.Cells.{listed-unique, length-told, told_in}
use Rattle.told.proofs.Told.{place-small, owed-bound, owed-one}

-- ---- one row of cells

module _ {tab : Table} (keeps : Kept tab) {budget : ℕ} {before after : List ℕ} (w : Written tab budget before after) where
  -- whatever is owed to the task of each number stands there
  pub written-joined :
      (told : ℕ → Cells)
      → ((k : ℕ) → k < in_all tab → OwedAt tab k budget (told k))
      → after ≡ joined (in_all tab) (λ k. listed (told k)) ++ drop (cells_of_task * in_all tab) before
  written-joined told each =
      w.is
      ∙ ap (λ (l : List ℕ). l ++ drop (cells_of_task * in_all tab) before)
      (joined_same (in_all tab) _ _ (λ k l. ap listed (owed-one keeps (w.each k l) (each k l))))

  -- and in the cells of that number
  pub written_in : {k : ℕ} → k < in_all tab → cells_in after k ≡ listed (w.told k)
  written_in {k} l =
      ap (λ (cells : List ℕ). cells_in cells k) w.is
      ∙ told_in w.told (in_all tab) (drop (cells_of_task * in_all tab) before) k l

  -- the first of these is its code
  pub written-code : {k : ℕ} → k < in_all tab → code_in after k ≡ (w.told k).code
  unfolding cells_in listed
  written-code {k} l =
      let i : cells_of_task * k + 0 ≡ cells_of_task * k = omega arith in
      ap (λ (n : ℕ). get_or after n 0) (sym i)
      ∙ sym (get_or-drop (cells_of_task * k) after 0 0)
      ∙ sym (get_or-take cells_of_task (drop (cells_of_task * k) after) 0 0 (omega arith))
      ∙ ap (λ (cells : List ℕ). get_or cells 0 0) (written_in l)

  -- and what lies behind the tasks is as it was
  pub written_behind : drop (cells_of_task * in_all tab) after ≡ drop (cells_of_task * in_all tab) before
  written_behind =
      ap (drop (cells_of_task * in_all tab)) w.is
      ∙ drop_at (joined (in_all tab) (λ k. listed (w.told k))) (drop (cells_of_task * in_all tab) before) (cells_of_task * in_all tab)
      (length-told w.told (in_all tab))

  written-unique : {other : List ℕ} → Written tab budget before other → after ≡ other
  written-unique v = written-joined v.told v.each ∙ sym v.is

-- ---- the contract of `cells`

pub clash : (image : List ℕ) {refusal : Refusal} {at : ℕ} → image_fault image ≡ refused refusal at → IsAccepted image → ⊥
clash image e ok = let z : ◌≡◌ {A = ℕ} 0 1 = cc in omega arith

pub refused-unique :
    (image : List ℕ) {x y : Refusal} {n m : ℕ}
    → image_fault image ≡ refused x n
    → image_fault image ≡ refused y m
    → (x ≡ y) × (n ≡ m)
refused-unique image {x} {y} {n} {m} h k =
    let same : fault_at x n ≡ fault_at y m = cc in
    (ap (λ (f : Fault). f.refusal) same, ap (λ (f : Fault). f.place) same)

fills-from-unique :
    {tab : Table}
    → Kept tab
    → {budget : ℕ} {before after other : List ℕ} {r q : Filling}
    → FillsFrom tab budget before after r
    → FillsFrom tab budget before other q
    → (r ≡ q) × (after ≡ other)
fills-from-unique keeps (FillsFrom.short l e) (FillsFrom.short m f) = (refl, e ∙ sym f)
fills-from-unique keeps (FillsFrom.short l e) (FillsFrom.done w) = absurd (omega (arith, w.room))
fills-from-unique keeps (FillsFrom.done w) (FillsFrom.short l e) = absurd (omega (arith, w.room))
fills-from-unique keeps (FillsFrom.done w) (FillsFrom.done v) = (refl, written-unique keeps w v)

-- one answer, and one row of cells after it
pub fills-unique :
    {image : List ℕ} {budget : ℕ} {before after other : List ℕ} {r q : Filling}
    → Fills image budget before after r
    → Fills image budget before other q
    → (r ≡ q) × (after ≡ other)
fills-unique {image} (Fills.refused h e) (Fills.refused k f) =
    let (s, t) = refused-unique image h k in
    (ap₂ refused s t, e ∙ sym f)
fills-unique {image} (Fills.refused h e) (Fills.accepted ok f) = absurd (clash image h ok)
fills-unique {image} (Fills.accepted ok f) (Fills.refused h e) = absurd (clash image h ok)
fills-unique {image} (Fills.accepted ok f) (Fills.accepted yet g) = fills-from-unique (kept image ok) f g

-- where it is done, they are the cells of the tasks in order of number, then what was there
pub fills-joined :
    {image : List ℕ} {budget n : ℕ} {before after : List ℕ}
    → Fills image budget before after (filled n)
    → (told : ℕ → Cells)
    → ((k : ℕ) → k < in_all (table_in image) → OwedAt (table_in image) k budget (told k))
    → after ≡ joined (in_all (table_in image)) (λ k. listed (told k)) ++ drop (cells_of_task * in_all (table_in image)) before
fills-joined {image} (Fills.accepted ok (FillsFrom.done w)) told each = written-joined (kept image ok) w told each

-- ---- the contract of `sumpcandle_response`

responds-from-unique :
    {tab : Table}
    → Kept tab
    → {task budget r q : ℕ}
    → RespondsFrom tab task budget r
    → RespondsFrom tab task budget q
    → r ≡ q
responds-from-unique keeps (RespondsFrom.unknown l) (RespondsFrom.unknown m) = refl
responds-from-unique {tab} keeps {task} (RespondsFrom.unknown l) (RespondsFrom.told x) =
    absurd (omega (arith, number_lt tab x.is_task, x.numbered))
responds-from-unique {tab} keeps {task} (RespondsFrom.told x) (RespondsFrom.unknown l) =
    absurd (omega (arith, number_lt tab x.is_task, x.numbered))
responds-from-unique keeps (RespondsFrom.told x) (RespondsFrom.told y) =
    ap (λ (c : Cells). paired c.code c.bound) (owed-one keeps x y)

-- one number
pub responds-unique :
    {image : List ℕ} {task budget r q : ℕ} → Responds image task budget r → Responds image task budget q → r ≡ q
responds-unique {image} (Responds.refused h) (Responds.refused k) =
    let (s, t) = refused-unique image h k in
    ap₂ paired (ap refusal_number s) t
responds-unique {image} (Responds.refused h) (Responds.accepted ok f) = absurd (clash image h ok)
responds-unique {image} (Responds.accepted ok f) (Responds.refused h) = absurd (clash image h ok)
responds-unique {image} (Responds.accepted ok f) (Responds.accepted yet g) = responds-from-unique (kept image ok) f g

-- ---- the two agree

-- the host's number for a task is made of the task's code and bound in the cells
pub agree :
    {image : List ℕ} {task budget r n : ℕ} {before after : List ℕ} (c : Cells)
    → Fills image budget before after (filled n)
    → task < in_all (table_in image)
    → cells_in after task ≡ listed c
    → Responds image task budget r
    → r ≡ paired c.code c.bound
agree {image} {task} c (Fills.accepted ok (FillsFrom.done w)) l e x =
    let keeps = kept image ok in
    responds-unique x (Responds.accepted ok (RespondsFrom.told (w.each task l)))
    ∙ ap (λ (c : Cells). paired c.code c.bound) (listed-unique (sym (written_in keeps w l) ∙ e))

-- and of a refused image both tell the number and the place
pub agree-refused :
    {image : List ℕ} {r task budget b : ℕ} {before after : List ℕ} {f : Filling}
    → ¬ (IsAccepted image)
    → Fills image b before after f
    → Responds image task budget r
    → r ≡ paired (filled_number f) (filled_place f)
agree-refused no_table (Fills.refused h e) x = responds-unique x (Responds.refused h)
agree-refused no_table (Fills.accepted ok f) x = absurd (no_table ok)

-- ---- the host's number taken apart

pub paired-parts : (x y : ℕ) → y < 2 ^ 32 → (paired x y / 2 ^ 32 ≡ x) × (paired x y % 2 ^ 32 ≡ y)
unfolding paired
paired-parts x y h = (omega arith, omega arith)

-- of a refused image: the number, and the place
pub refused-parts :
    (image : List ℕ) {refusal : Refusal} {at task budget r : ℕ}
    → image_fault image ≡ refused refusal at
    → Responds image task budget r
    → (r / 2 ^ 32 ≡ refusal_number refusal) × (r % 2 ^ 32 ≡ at)
refused-parts image h x = rw (responds-unique x (Responds.refused h)) (paired-parts _ _ (place-small image h))

-- of a task: the code, and the bound
pub told-parts :
    {image : List ℕ} {task budget r : ℕ} {c : Cells}
    → IsAccepted image
    → OwedAt (table_in image) task budget c
    → Responds image task budget r
    → (r / 2 ^ 32 ≡ c.code) × (r % 2 ^ 32 ≡ c.bound)
told-parts {image} {c = c} ok o x =
    rw (responds-unique x (Responds.accepted ok (RespondsFrom.told o)))
    (paired-parts c.code c.bound (owed-bound (kept image ok) o.is_task o.owed))
