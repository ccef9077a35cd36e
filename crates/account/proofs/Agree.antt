-- What is told of one task by one walk agrees with the other calls: what its bound is made of, its cells, and the part of each
-- transaction; and in itself.
use mathlib.Core.Path.{◌≡◌, refl, sym, ap, ◌∙◌, subst}
use mathlib.Core.List.{List}
use lib.ListN.{length, get_or}
use Prim.Native.Nat.{ℕ, ◌+◌, ◌*◌, ◌<◌}
use native.Mathlib.Omega.{arith}
use Rattle.table.specs.Table.{IsTask, transactions, tasks}
use Rattle.table.specs.Number.{in_all, number}
use Rattle.table.specs.Sum.{sum}
use Rattle.table.proofs.Sum.{sum-ext}
use Rattle.table.proofs.Number.{number_lt, number-unique}
use Rattle.format.specs.Fault.{IsAccepted}
use Rattle.format.specs.Said.{table_in}
use Rattle.format.proofs.Kept.{kept}
use Rattle.analysis.specs.Answer.{Cells}
use Rattle.told.specs.declared.TaskCells.{TaskCells}
use Rattle.std.specs.Prelude.{Some, Result, Ok, Err, MatchOption}
use Rattle.refusals.specs.declared.Fault.{Fault}
use Rattle.told.specs.Answered.{cells_meant}
use Rattle.told.specs.Cells.{listed, cells_in}
use Rattle.told.specs.Told.{filled, Owed, OwedAt, FillsFrom, Fills}
use Rattle.told.proofs.Agree.{written_in}
use Rattle.told.proofs.Told.{owed-one}
use Rattle.parts.specs.declared.Charge.{Charge}
use Rattle.parts.specs.declared.Parts.{Parts}
use Rattle.parts.specs.declared.Part.{Part}
use Rattle.parts.specs.declared.Part.TheVariants as part
use Rattle.parts.specs.Parts.{OfImage, OfTask, MadeFor, Makes, PartFor, HasPart, charge_listed}
use Rattle.parts.proofs.Unique.{has-part-unique}
use Rattle.account.specs.declared.Account.{Account}
use Rattle.account.specs.Account.{group_cells, charges_cell, shares_cell, account_cells, charge_cells, AccountFor, with_cells, Accounts, made_in, OfCells}
use Rattle.account.proofs.Lays.{lays-charge, lays-share}
use Rattle.account.proofs.Adds.{shares-add}

-- whatever is told of the task, with the cells after it
abbrev Tells : (image : List ℕ) (task budget : ℕ) (before : List ℕ) → Result (Account × List ℕ) Fault → Type 0
Tells image task budget before = OfImage (OfTask (AccountFor budget before) task) image

-- the answer alone
answer_of : Result (Account × List ℕ) Fault → Result Account Fault
answer_of (Ok (x, after)) = Ok x
answer_of (Err f) = Err f

answer-of : (after : List ℕ) (r : Result Account Fault) → answer_of (with_cells after r) ≡ r
unfolding answer_of
answer-of after (Ok x) = refl
answer-of after (Err f) = refl

-- where there is a bound, this of its parts and of the cells after it
Where : (P : Parts → List ℕ → Type 0) → Result (Account × List ℕ) Fault → Type 0
Where P (Err f) = Unit {0}
Where P (Ok (x, after)) = MatchOption x.parts (Unit {0}) (λ p. P p after)

-- cell k of transaction i is that of its charge
abbrev Stands : (i k : ℕ) → Charge → Parts → List ℕ → Type 0
Stands i k d p after = get_or after (charges_cell + group_cells * i + k) 0 ≡ get_or (charge_listed d) k 0

-- and the last cells of n places make up what its own rivals charge
abbrev Sums : (n : ℕ) → Parts → List ℕ → Type 0
Sums n p after = sum n (λ j. get_or after (shares_cell + group_cells * j + 2) 0) ≡ p.rivals

module _ {image : List ℕ} {task budget : ℕ} where
  makes : {before : List ℕ} {y : Result (Account × List ℕ) Fault} → Tells image task budget before y → Makes image task budget (made_in (answer_of y))
  unfolding made_in answer_of
  makes (OfImage.refused e) = OfImage.refused e
  makes (OfImage.accepted ok (OfTask.unknown l)) = OfImage.accepted ok (OfTask.unknown l)
  makes (OfImage.accepted ok (OfTask.known is_task numbered (AccountFor.unbounded o h n))) =
      OfImage.accepted ok (OfTask.known is_task numbered (MadeFor.unbounded h n))
  makes (OfImage.accepted ok (OfTask.known is_task numbered (AccountFor.bounded o h m l))) =
      OfImage.accepted ok (OfTask.known is_task numbered (MadeFor.bounded h m))

  -- its parts are those of `parts`
  pub accounts-makes : {before after : List ℕ} {r : Result Account Fault} → Accounts image task budget before after r → Makes image task budget (made_in r)
  accounts-makes {after = after} {r = r} x = subst (λ (z : Result Account Fault). Makes image task budget (made_in z)) (answer-of after r) (makes x.told)

  module _ {n : ℕ} {row after : List ℕ} (f : Fills image budget row after (filled n)) where
    -- what is owed to that task of the image stands in the row of `cells`
    stands : IsAccepted image → {u a : ℕ} → IsTask (table_in image) u a → number (table_in image) u a ≡ task → {c : Cells} → Owed (table_in image) u a budget c → cells_in after task ≡ listed c
    stands ok {u} {a} is_task numbered {c} o = go f
      where
        here : OwedAt (table_in image) task budget c
        here = record { u = u; a = a; is_task = is_task; numbered = numbered; owed = o }

        go : {n : ℕ} → Fills image budget row after (filled n) → cells_in after task ≡ listed c
        go (Fills.accepted yet (FillsFrom.done w)) =
            let l : task < in_all (table_in image) = omega (arith, number_lt (table_in image) is_task, numbered) in
            written_in (kept image ok) w l ∙ ap listed (owed-one (kept image ok) (w.each task l) here)

    cells_told : {before : List ℕ} {y : Result (Account × List ℕ) Fault} → Tells image task budget before y → OfCells (answer_of y) (λ c. cells_in after task ≡ listed (cells_meant c))
    unfolding OfCells answer_of
    cells_told (OfImage.refused e) = tt
    cells_told (OfImage.accepted ok (OfTask.unknown l)) = tt
    cells_told (OfImage.accepted ok (OfTask.known is_task numbered (AccountFor.unbounded o h n))) = stands ok is_task numbered o
    cells_told (OfImage.accepted ok (OfTask.known is_task numbered (AccountFor.bounded o h m l))) = stands ok is_task numbered o

    -- its cells are those of `cells`
    pub accounts-cells : {before lent : List ℕ} {r : Result Account Fault} → Accounts image task budget before lent r → OfCells r (λ c. cells_in after task ≡ listed (cells_meant c))
    accounts-cells {lent = lent} {r = r} x = subst (λ (z : Result Account Fault). OfCells z (λ c. cells_in after task ≡ listed (cells_meant c))) (answer-of lent r) (cells_told x.told)

  -- the lent cells of a transaction are those of `part`
  module _ {i : ℕ} {d : Charge} (there : i < transactions (table_in image)) (has : HasPart image task budget i (Ok (part.Charged d))) (k : ℕ) (small : k < group_cells) where
    part-stands : {before : List ℕ} → length before ≡ account_cells → {y : Result (Account × List ℕ) Fault} → Tells image task budget before y → Where (Stands i k d) y
    unfolding Where
    part-stands long (OfImage.refused e) = tt
    part-stands long (OfImage.accepted ok (OfTask.unknown l)) = tt
    part-stands long (OfImage.accepted ok (OfTask.known is_task numbered (AccountFor.unbounded o h n))) = tt
    part-stands long (OfImage.accepted ok (OfTask.known is_task numbered (AccountFor.bounded o h m l))) =
        let same : Ok (part.Charged d) ≡ Ok (l.charges i) = has-part-unique has (OfImage.accepted ok (OfTask.known is_task numbered (PartFor.bounded h m (l.each i there)))) in
        let one : part.Charged d ≡ l.charges i = cc in
        lays-charge (kept image ok) long l i k there (rw (← one) small) ∙ ap (λ (r : Part). get_or (charge_cells r) k 0) (sym one)

    pub accounts-part :
        {before after : List ℕ} {c : TaskCells} {p : Parts}
        → length before ≡ account_cells
        → Accounts image task budget before after (Ok (record { cells = c; parts = Some p }))
        → get_or after (charges_cell + group_cells * i + k) 0 ≡ get_or (charge_listed d) k 0
    unfolding Where
    accounts-part long x = part-stands long x.told

  -- the ticks of the shares, as they stand there, make up what the rivals of its own transaction charge
  module _ {u a : ℕ} (is_task : IsTask (table_in image) u a) (numbered : number (table_in image) u a ≡ task) where
    shares-stand : {before : List ℕ} → length before ≡ account_cells → {y : Result (Account × List ℕ) Fault} → Tells image task budget before y → Where (Sums (tasks (table_in image) u)) y
    unfolding Where
    shares-stand long (OfImage.refused e) = tt
    shares-stand long (OfImage.accepted ok (OfTask.unknown l)) = tt
    shares-stand long (OfImage.accepted ok (OfTask.known other alike (AccountFor.unbounded o h n))) = tt
    shares-stand long (OfImage.accepted ok (OfTask.known other alike (AccountFor.bounded {p = p} {after = after} o h m l))) =
        let (e, f) = number-unique (table_in image) other is_task (alike ∙ sym numbered) in
        subst (λ (v : ℕ). sum (tasks (table_in image) v) (λ j. get_or after (shares_cell + group_cells * j + 2) 0) ≡ p.rivals) e
        (sum-ext (tasks (table_in image) _) (λ j h. lays-share (kept image ok) long l other.owner j 2 h (omega arith)) ∙ shares-add m)

    pub accounts-shares :
        {before after : List ℕ} {c : TaskCells} {p : Parts}
        → length before ≡ account_cells
        → Accounts image task budget before after (Ok (record { cells = c; parts = Some p }))
        → sum (tasks (table_in image) u) (λ j. get_or after (shares_cell + group_cells * j + 2) 0) ≡ p.rivals
    unfolding Where
    accounts-shares long x = shares-stand long x.told
