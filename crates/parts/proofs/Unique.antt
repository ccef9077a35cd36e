-- Each statement fixes the answer: whatever it allows of one image, task, budget, transaction and t is one.
use mathlib.Core.Path.{◌≡◌, refl, sym, ap, ◌∙◌, subst, subst₂}
use mathlib.Core.Bool.{Bool}
use mathlib.Core.List.{List}
use Prim.Native.Nat.{ℕ}
use native.Mathlib.Omega.{arith}
use Rattle.refusals.specs.declared.Refusal.{Refusal}
use Rattle.std.specs.Prelude.{Result, Ok, Err, Option, Some}
use Rattle.refusals.specs.declared.Fault.{Fault}
use Rattle.refusals.specs.Answer.{refused, fault_at}
use Rattle.table.specs.Table.{Table, IsTask}
use Rattle.table.specs.Kept.{Kept}
use Rattle.table.proofs.Number.{number-unique, number_lt}
use Rattle.format.specs.Fault.{image_fault, IsAccepted}
use Rattle.format.proofs.Kept.{kept}
use Rattle.periods.specs.Charge.{imposed}
use Rattle.analysis.specs.Charge.{Later}
use Rattle.analysis.specs.Order.{Source}
use Rattle.analysis.specs.Parts as analysis
use Rattle.analysis.specs.Parts.{MadeOf}
use Rattle.analysis.specs.Answer.{bound, named, Answers}
use Rattle.analysis.proofs.Answer.{answers-unique, bound-by-unique}
use Rattle.analysis.proofs.Parts.{parts-unique}
use Rattle.analysis.proofs.Who.{most-unique}
use Rattle.charge.specs.Later.{later_of}
use Rattle.parts.specs.declared.Part.{Part}
use Rattle.parts.specs.declared.Parts.{Parts}
use Rattle.parts.specs.Parts.{Made, OfImage, OfTask, parts_meant, MadeFor, Makes, ChargedBy, ChargesOne, PartFor, HasPart, part_said}

-- ---- of an image, and of a task

pub clash : (image : List ℕ) {refusal : Refusal} {at : ℕ} → image_fault image ≡ refused refusal at → IsAccepted image → ⊥
clash image e ok = let z : ◌≡◌ {A = ℕ} 0 1 = cc in omega arith

pub of_image : {R : Type 0} {Told : Table → Result R Fault → Type 0} (image : List ℕ) {r q : Result R Fault} → ((tab : Table) → Kept tab → (x y : Result R Fault) → Told tab x → Told tab y → x ≡ y) → OfImage Told image r → OfImage Told image q → r ≡ q
of_image image one (OfImage.refused {refusal = x} {at = n} h) (OfImage.refused {refusal = y} {at = m} k) =
    let same : fault_at x n ≡ fault_at y m = cc in
    ap (λ (f : Fault). Err f) same
of_image image one (OfImage.refused h) (OfImage.accepted ok y) = absurd (clash image h ok)
of_image image one (OfImage.accepted ok x) (OfImage.refused h) = absurd (clash image h ok)
of_image image one (OfImage.accepted ok x) (OfImage.accepted yet y) = one _ (kept image ok) _ _ x y

pub of-task : {R : Type 0} {Told : Table → (u a : ℕ) → R → Type 0} (k : ℕ) (tab : Table) {r q : Result R Fault} → ((u a : ℕ) → IsTask tab u a → (x y : R) → Told tab u a x → Told tab u a y → x ≡ y) → OfTask Told k tab r → OfTask Told k tab q → r ≡ q
of-task k tab one (OfTask.unknown l) (OfTask.unknown m) = refl
of-task k tab one (OfTask.unknown l) (OfTask.known is_task numbered y) = absurd (omega (arith, number_lt tab is_task, numbered))
of-task k tab one (OfTask.known is_task numbered x) (OfTask.unknown l) = absurd (omega (arith, number_lt tab is_task, numbered))
of-task {R} {Told} k tab one (OfTask.known {u = u} {a = a} {r = r} is_task numbered x) (OfTask.known {u = v} {a = b} other same y) =
    let (e, f) = number-unique tab is_task other (numbered ∙ sym same) in
    ap (λ (z : R). Ok z) (one v b other _ _ (subst₂ (λ (i j : ℕ). Told tab i j r) e f x) y)

-- ---- the parts

module _ {tab : Table} (keeps : Kept tab) {u a : ℕ} (is_task : IsTask tab u a) where
  -- one bound, one that gives it, and one list of parts
  pub one-made : {budget R Q n m : ℕ} {x y : Source} {p q : analysis.Parts} → Answers tab u a budget (bound R n (named tab u x)) → MadeOf tab u a R x p → Answers tab u a budget (bound Q m (named tab u y)) → MadeOf tab u a Q y q → p ≡ q
  one-made {x = x} {y = y} {p = p} {q = q} h v k w =
      let (e, f) = bound-by-unique v.by w.by in
      parts-unique (subst₂ (λ (R : ℕ) (z : Source). MadeOf tab u a R z p) f e v) w

  pub made-for : {budget : ℕ} {r q : Option Parts} → MadeFor budget tab u a r → MadeFor budget tab u a q → r ≡ q
  made-for (MadeFor.unbounded h n) (MadeFor.unbounded k m) = refl
  made-for (MadeFor.unbounded h n) (MadeFor.bounded k w) = absurd (n _ _ _ (answers-unique keeps is_task h k))
  made-for (MadeFor.bounded h v) (MadeFor.unbounded k m) = absurd (m _ _ _ (answers-unique keeps is_task k h))
  made-for (MadeFor.bounded {p = p} h v) (MadeFor.bounded {p = q} k w) = ap (λ (p : Parts). Some p) (back (one-made h v k w))
    where
      back : parts_meant p ≡ parts_meant q → p ≡ q
      back e =
          λ i. record {
            completion = (e i).completion;
            arrival = (e i).arrival;
            offset = (e i).offset;
            blocking = (e i).blocking;
            jobs = (e i).own_jobs;
            rivals = (e i).own_rivals;
          }

pub makes-unique : {image : List ℕ} {task budget : ℕ} {r q : Made} → Makes image task budget r → Makes image task budget q → r ≡ q
makes-unique {image} {task} =
    of_image image (λ tab keeps x y. of-task task tab (λ u a is_task x y. made-for keeps is_task))

-- ---- the charge of a transaction

pub charged-by : (later : Later) {i t : ℕ} (tab : Table) (u a : ℕ) → IsTask tab u a → {r q : Part} → ChargedBy later i t tab u a r → ChargedBy later i t tab u a q → r ≡ q
charged-by later tab u a is_task (ChargedBy.own e) (ChargedBy.own f) = refl
charged-by later tab u a is_task (ChargedBy.own e) (ChargedBy.missing m) = absurd (omega (arith, is_task.owner))
charged-by later tab u a is_task (ChargedBy.own e) (ChargedBy.other o k f) = absurd (o.other e)
charged-by later tab u a is_task (ChargedBy.missing l) (ChargedBy.own f) = absurd (omega (arith, is_task.owner))
charged-by later tab u a is_task (ChargedBy.missing l) (ChargedBy.missing m) = refl
charged-by later tab u a is_task (ChargedBy.missing l) (ChargedBy.other o k f) = absurd (omega (arith, o.there))
charged-by later tab u a is_task (ChargedBy.other o h e) (ChargedBy.own f) = absurd (o.other f)
charged-by later tab u a is_task (ChargedBy.other o h e) (ChargedBy.missing m) = absurd (omega (arith, o.there))
charged-by later {i} tab u a is_task (ChargedBy.other o h e) (ChargedBy.other p k f) =
    sym e ∙ ap (part_said tab i) (most-unique h k) ∙ f

pub charges-one-unique : {image : List ℕ} {task i : ℕ} (whole : Bool) {t : ℕ} {r q : Result Part Fault} → ChargesOne image task i whole t r → ChargesOne image task i whole t q → r ≡ q
charges-one-unique {image} {task} whole =
    of_image image (λ tab keeps x y. of-task task tab (λ u a is_task x y. charged-by (later_of whole) tab u a is_task))

part-for : {budget i : ℕ} {tab : Table} → Kept tab → (u a : ℕ) → IsTask tab u a → {r q : Part} → PartFor budget i tab u a r → PartFor budget i tab u a q → r ≡ q
part-for keeps u a is_task (PartFor.unbounded h n) (PartFor.unbounded k m) = refl
part-for keeps u a is_task (PartFor.unbounded h n) (PartFor.bounded k w c) = absurd (n _ _ _ (answers-unique keeps is_task h k))
part-for keeps u a is_task (PartFor.bounded h v b) (PartFor.unbounded k m) = absurd (m _ _ _ (answers-unique keeps is_task k h))
part-for {i = i} {tab = tab} keeps u a is_task (PartFor.bounded {p = p} {r = r} h v b) (PartFor.bounded {p = q} k w c) =
    let e = ap (λ (z : analysis.Parts). z.completion) (one-made keeps is_task h v k w) in
    charged-by imposed tab u a is_task (subst (λ (t : ℕ). ChargedBy imposed i t tab u a r) e b) c

pub has-part-unique : {image : List ℕ} {task budget i : ℕ} {r q : Result Part Fault} → HasPart image task budget i r → HasPart image task budget i q → r ≡ q
has-part-unique {image} {task} =
    of_image image (λ tab keeps x y. of-task task tab (λ u a is_task x y. part-for keeps u a is_task))
