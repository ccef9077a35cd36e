-- What the contracts say of document 01's sample S and of the empty image: the cells that `cells` may leave, and the one
-- number that the host may get.
use mathlib.Core.Path.{◌≡◌, refl, sym, subst}
use mathlib.Core.List.{List, [], ◌∷◌, ◌++◌}
use Prim.Native.Nat.{ℕ, zero, suc, ◌≤◌, ◌<◌}
use native.Mathlib.Omega.{arith}
use lib.ListN.{length, drop}
use Rattle.table.specs.Table.{Table, IsTask, deadline}
use Rattle.table.specs.Number.{in_all, number}
use Rattle.table.specs.Kept.{Kept}
use Rattle.table.specs.Sample.{S}
use Rattle.refusals.specs.Answer.{refused}
use Rattle.refusals.specs.declared.Refusal.TheVariants.{EndsInside}
use Rattle.table.specs.Lists.{joined}
use Rattle.format.specs.Said.{table_in}
use Rattle.format.specs.Fault.{image_fault, IsAccepted}
use Rattle.format.specs.Computing.{computing as reading}
use Rattle.format.proofs.Kept.{kept}
use Rattle.periods.specs.Charge.{imposed}
use Rattle.analysis.specs.Answer.{Named, Answer, bound, Cells, cells, unbounded}
use Rattle.analysis.specs.Walk.{answer}
use Rattle.analysis.specs.Computing.{computing}
use Rattle.analysis.proofs.Charges.{imposed-fair}
use Rattle.analysis.proofs.Budget.{greater-budget}
use Rattle.told.specs.Cells.{listed}
use Rattle.told.specs.Told.{Filling, filled, Owed, OwedAt, FillsFrom, Fills, paired, RespondsFrom, Responds}
use Rattle.told.specs.Budget.{five, six}
use Rattle.told.proofs.Told.{owed}
use Rattle.told.proofs.Agree.{written-joined, fills-unique, responds-unique}

-- the image of S
abbrev pub image_s : List ℕ
image_s =
    0x10 ∷ 0x00 ∷ 0x01 ∷ 0x40 ∷ 0x80 ∷ 0x00 ∷ 0x05 ∷ 0x04 ∷ 0x40 ∷ 0x00 ∷ 0x00 ∷ 0x00 ∷ 0x00 ∷ 0x00 ∷ 0x00 ∷ 0x00
    ∷ 0x00 ∷ 0x00 ∷ 0x00 ∷ 0x00 ∷ 0x50 ∷ 0x48 ∷ 0x00 ∷ 0x00 ∷ 0x10 ∷ 0x00 ∷ 0x00 ∷ 0x20 ∷ 0x00 ∷ 0x00 ∷ 0x00 ∷ 0x00
    ∷ 0x00 ∷ 0x00 ∷ 0x00 ∷ 0x00 ∷ 0x14 ∷ 0x10 ∷ 0x00 ∷ 0x00 ∷ 0x06 ∷ 0x00 ∷ 0x00 ∷ 0x28 ∷ 0x21 ∷ 0x00 ∷ 0x00 ∷ 0x00
    ∷ 0x00 ∷ 0x00 ∷ 0x00 ∷ 0x00 ∷ 0x00 ∷ 0x00 ∷ 0x00 ∷ 0x00 ∷ 0x01 ∷ 0x00 ∷ 0x40 ∷ 0x00 ∷ 0x00 ∷ 0x80 ∷ []

pub S-accepted : IsAccepted image_s
unfolding reading
S-accepted = refl

pub S-table : table_in image_s ≡ S
unfolding reading
S-table = refl

pub empty-refused : image_fault [] ≡ refused EndsInside 0
unfolding reading
empty-refused = refl

pub S-kept : Kept S
S-kept = rw S-table at (kept image_s S-accepted)

-- its tasks 0, 1 and 2
first-S : IsTask S 0 0
unfolding computing
first-S = record { owner = omega arith; place = omega arith }

second-S : IsTask S 0 1
unfolding computing
second-S = record { owner = omega arith; place = omega arith }

pub last-S : IsTask S 1 0
unfolding computing
last-S = record { owner = omega arith; place = omega arith }

-- the cells of S's tasks by number
cells_s : ℕ → Cells
cells_s zero = record { code = 0; bound = 2; evaluations = 3; mode = 0; candidate = 0; job = 0 }
cells_s (suc zero) = record { code = 0; bound = 7; evaluations = 5; mode = 0; candidate = 1; job = 0 }
cells_s (suc (suc k)) = record { code = 20; bound = 5; evaluations = 6; mode = 0; candidate = 2; job = 0 }

-- the row of S where its tasks are owed these cells: six a task, and then what was there
S-row :
    {budget : ℕ} {before after : List ℕ} {r : Filling} (told : ℕ → Cells)
    → ((k : ℕ) → k < in_all S → OwedAt S k budget (told k))
    → 18 ≤ length before
    → Fills image_s budget before after r
    → (r ≡ filled 3) × (after ≡ joined 3 (λ k. listed (told k)) ++ drop 18 before)
unfolding computing
S-row told each room (Fills.refused h e) = let z : ◌≡◌ {A = ℕ} 0 1 = cc S-accepted in absurd (omega arith)
S-row {budget} {before} {after} {r} told each room (Fills.accepted ok f) =
    go (subst (λ (tab : Table). FillsFrom tab budget before after r) S-table f)
  where
    go : {q : Filling} → FillsFrom S budget before after q → (q ≡ filled 3) × (after ≡ joined 3 (λ k. listed (told k)) ++ drop 18 before)
    go (FillsFrom.short l e) = absurd (omega arith)
    go (FillsFrom.done w) = (refl, written-joined S-kept w told each)

module _ {budget : ℕ} (enough : 6 ≤ budget) where
  -- with six evaluations no task of S is short, so a greater budget changes nothing
  pub answer-S : {u a R n : ℕ} {by : Named} → IsTask S u a → answer imposed S u a 6 ≡ bound R n by → answer imposed S u a budget ≡ bound R n by
  answer-S is e = greater-budget imposed-fair S-kept is enough e (λ m f. let z : ◌≡◌ {A = ℕ} 0 1 = cc in omega arith)

  owed-S : {u a R n : ℕ} {by : Named} → IsTask S u a → answer imposed S u a 6 ≡ bound R n by → Owed S u a budget (cells (deadline S u a) (bound R n by))
  owed-S {u} {a} is e =
      subst (λ (x : Answer). Owed S u a budget (cells (deadline S u a) x)) (answer-S is e) (owed S-kept is budget)

  owed-S-at : {u a R n : ℕ} {by : Named} → IsTask S u a → answer imposed S u a 6 ≡ bound R n by → OwedAt S (number S u a) budget (cells (deadline S u a) (bound R n by))
  owed-S-at {u} {a} is e = record { u = u; a = a; is_task = is; numbered = refl; owed = owed-S is e }

  each : (k : ℕ) → k < in_all S → OwedAt S k budget (cells_s k)
  unfolding computing cells_s cells
  each zero l = owed-S-at first-S refl
  each (suc zero) l = owed-S-at second-S refl
  each (suc (suc zero)) l = owed-S-at last-S refl
  each (suc (suc (suc k))) l = absurd (omega arith)

  -- the listing of S
  pub S-cells :
      {before after : List ℕ} {r : Filling}
      → 18 ≤ length before
      → Fills image_s budget before after r
      → (r ≡ filled 3) × (after ≡ six ++ drop 18 before)
  unfolding joined listed cells_s six
  S-cells = S-row cells_s each

  -- and the host's number for task 2
  pub S-number : {r : ℕ} → Responds image_s 2 budget r → r ≡ paired 20 5
  unfolding computing cells_s
  S-number x = responds-unique x
      (Responds.accepted S-accepted
      (subst (λ (tab : Table). RespondsFrom tab 2 budget (paired 20 5)) (sym S-table)
      (RespondsFrom.told (each 2 (omega arith)))))

-- with a budget of 5 task 2 is short of one evaluation
cells_short : ℕ → Cells
cells_short zero = cells_s 0
cells_short (suc zero) = cells_s 1
cells_short (suc (suc k)) = unbounded 23 5

owed-short : {u a : ℕ} → IsTask S u a → OwedAt S (number S u a) 5 (cells (deadline S u a) (answer imposed S u a 5))
owed-short {u} {a} is = record { u = u; a = a; is_task = is; numbered = refl; owed = owed S-kept is 5 }

each_short : (k : ℕ) → k < in_all S → OwedAt S k 5 (cells_short k)
unfolding computing cells_short cells_s cells
each_short zero l = owed-short first-S
each_short (suc zero) l = owed-short second-S
each_short (suc (suc zero)) l = owed-short last-S
each_short (suc (suc (suc k))) l = absurd (omega arith)

-- so its code is 23 in the listing
pub S-cells-short :
    {before after : List ℕ} {r : Filling}
    → 18 ≤ length before
    → Fills image_s 5 before after r
    → (r ≡ filled 3) × (after ≡ five ++ drop 18 before)
unfolding joined listed cells_short cells_s five
S-cells-short = S-row cells_short each_short

-- and its number is 23, 0
pub S-short : {r : ℕ} → Responds image_s 2 5 r → r ≡ paired 23 0
unfolding computing cells_short
S-short x = responds-unique x
    (Responds.accepted S-accepted
    (subst (λ (tab : Table). RespondsFrom tab 2 5 (paired 23 0)) (sym S-table)
    (RespondsFrom.told (each_short 2 (omega arith)))))

-- the empty image is refused with 1 at place 0, and leaves every cell
pub empty-cells :
    {budget : ℕ} {before after : List ℕ} {r : Filling}
    → Fills [] budget before after r
    → (r ≡ refused EndsInside 0) × (after ≡ before)
empty-cells x = fills-unique x (Fills.refused empty-refused refl)

pub empty-number : {task budget r : ℕ} → Responds [] task budget r → r ≡ paired 1 0
empty-number x = responds-unique x (Responds.refused empty-refused)
