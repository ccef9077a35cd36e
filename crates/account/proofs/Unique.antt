-- The statement fixes the answer and the cells: whatever it allows of one image, task, budget and lent cells is one.
use mathlib.Core.Path.{◌≡◌, refl, sym, ap, ap₂, ◌∙◌}
use mathlib.Core.List.{List}
use Prim.Native.Nat.{ℕ}
use Rattle.table.specs.Table.{Table, IsTask}
use Rattle.table.specs.Number.{number}
use Rattle.table.specs.Kept.{Kept}
use Rattle.analysis.specs.Answer.{Cells}
use Rattle.analysis.specs.Order.{Source}
use Rattle.analysis.proofs.Answer.{answers-unique, bound-by-unique}
use Rattle.told.specs.declared.TaskCells.{TaskCells}
use Rattle.told.specs.Answered.{cells_meant}
use Rattle.told.specs.Told.{Owed, OwedAt}
use Rattle.told.proofs.Told.{owed-one}
use Rattle.parts.specs.declared.Parts.{Parts}
use Rattle.std.specs.Prelude.{Some, None, Result, Ok, Err, OnErr}
use Rattle.refusals.specs.declared.Fault.{Fault}
use Rattle.parts.specs.Parts.{MadeFor}
use Rattle.parts.proofs.Unique.{of_image, of-task, made-for}
use Rattle.account.specs.declared.Account.{Account}
use Rattle.account.specs.Account.{laid_for, AccountFor, with_cells, Accounts}
use Rattle.account.proofs.Lays.{lays-is}

abbrev told : Account → List ℕ → Account × List ℕ
told r after = (r, after)

module _ {tab : Table} (keeps : Kept tab) {u a : ℕ} (is_task : IsTask tab u a) {budget : ℕ} where
  owed-at : {c : Cells} → Owed tab u a budget c → OwedAt tab (number tab u a) budget c
  owed-at x = record { u = u; a = a; is_task = is_task; numbered = refl; owed = x }

  one-cells : {c d : TaskCells} → Owed tab u a budget (cells_meant c) → Owed tab u a budget (cells_meant d) → c ≡ d
  one-cells x y =
      let e = owed-one keeps (owed-at x) (owed-at y) in
      λ i. record {
        code = (e i).code;
        bound = (e i).bound;
        evaluations = (e i).evaluations;
        mode = (e i).mode;
        candidate = (e i).candidate;
        job = (e i).job;
      }

  account-for : {before : List ℕ} {x y : Account × List ℕ} → AccountFor budget before tab u a x → AccountFor budget before tab u a y → x ≡ y
  account-for {before} (AccountFor.unbounded o h n) (AccountFor.unbounded q k m) =
      ap (λ (c : TaskCells). told (record { cells = c; parts = None }) before) (one-cells o q)
  account-for (AccountFor.unbounded o h n) (AccountFor.bounded q k w m) = absurd (n _ _ _ (answers-unique keeps is_task h k))
  account-for (AccountFor.bounded o h v l) (AccountFor.unbounded q k m) = absurd (m _ _ _ (answers-unique keeps is_task k h))
  account-for {before} (AccountFor.bounded {x = x} {p = p} o h v l) (AccountFor.bounded {x = y} {p = q} s k w m) =
      let e : Some p ≡ Some q = made-for keeps is_task (MadeFor.bounded h v) (MadeFor.bounded k w) in
      let parts : p ≡ q = cc in
      let by : x ≡ y = (bound-by-unique v.by w.by).0 in
      ap₂ told (ap₂ (λ (c : TaskCells) (r : Parts). record { cells = c; parts = Some r }) (one-cells o s) parts)
      (lays-is is_task l
      ∙ ap₂ (λ (z : Source) (r : Parts). laid_for tab u a z.turn r.completion before) by parts
      ∙ sym (lays-is is_task m))

-- one answer, and one content of the cells after it
pub accounts-unique :
    {image : List ℕ} {task budget : ℕ} {before after other : List ℕ} {r q : Result Account Fault}
    → Accounts image task budget before after r
    → Accounts image task budget before other q
    → (r ≡ q) × (after ≡ other)
accounts-unique {image} {task} {before = before} {after = after} {other = other} {r = r} {q = q} x y =
    go r q x.stays y.stays (of_image image (λ tab keeps x y. of-task task tab (λ u a is_task x y. account-for keeps is_task)) x.told y.told)
  where
    go : (r q : Result Account Fault) → OnErr r (after ≡ before) → OnErr q (other ≡ before) → with_cells after r ≡ with_cells other q → (r ≡ q) × (after ≡ other)
    go (Ok a) (Ok b) s t e =
        let same : told a after ≡ told b other = cc in
        (ap (λ (z : Account × List ℕ). Ok z.0) same, ap (λ (z : Account × List ℕ). z.1) same)
    go (Ok a) (Err g) s t e = cc
    go (Err f) (Ok b) s t e = cc
    go (Err f) (Err g) s t e = (cc, s ∙ sym t)
