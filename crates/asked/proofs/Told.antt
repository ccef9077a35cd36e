-- The place of an answer fits 32 bits; and a host is told one number, and its cells are left in one way.
use mathlib.Core.Path.{◌≡◌, sym, ap, ◌∙◌, subst}
use mathlib.Core.Bool.{Bool}
use mathlib.Core.List.{List}
use lib.IntN.{ℤ}
use Prim.Native.Nat.{ℕ, ◌<◌, ◌^◌}
use native.Mathlib.Omega.{arith}
use Rattle.std.specs.Prelude.{Result}
use Rattle.refusals.specs.declared.Fault.{Fault}
use Rattle.told.specs.Told.{Filling, filled_number, filled_place, Fills, FillsFrom, paired}
use Rattle.told.proofs.Told.{place-small}
use Rattle.told.proofs.Agree.{fills-unique}
use Rattle.parts.specs.declared.Part.{Part}
use Rattle.parts.specs.Parts.{Made, OfImage, OfTask, MadeFor, Makes, ChargedBy, ChargesOne, PartFor, HasPart, part_said, made_number, made_place, made_cells, part_case, part_number, part_place, part_cells}
use Rattle.charge.specs.Later.{later_of}
use Rattle.analysis.specs.Charge.{Later}
use Rattle.analysis.specs.Who.{Most, nobody, charged}
use Rattle.table.specs.Table.{Table}
use Rattle.asked.specs.Asked.{TellsFilled, TellsMade, TellsPart}

pub filled-place : {image : List ℕ} {budget : ℕ} {before after : List ℕ} {x : Filling} → Fills image budget before after x → filled_place x < 2 ^ 32
filled-place {image} (Fills.refused e f) = place-small image e
filled-place (Fills.accepted ok (FillsFrom.short l e)) = omega arith
filled-place (Fills.accepted ok (FillsFrom.done w)) = omega arith

pub made-place : {image : List ℕ} {task budget : ℕ} {x : Made} → Makes image task budget x → made_place x < 2 ^ 32
made-place {image} (OfImage.refused e) = place-small image e
made-place (OfImage.accepted ok (OfTask.unknown l)) = omega arith
made-place (OfImage.accepted ok (OfTask.known is_task numbered (MadeFor.unbounded h n))) = omega arith
made-place (OfImage.accepted ok (OfTask.known is_task numbered (MadeFor.bounded h m))) = omega arith

said-place : (tab : Table) (i : ℕ) (x : Most) → part_case (part_said tab i x) < 2 ^ 32
unfolding part_said
said-place tab i nobody = omega arith
said-place tab i (charged r x) = omega arith

charged-place : (later : Later) {i t : ℕ} {tab : Table} {u a : ℕ} {x : Part} → ChargedBy later i t tab u a x → part_case x < 2 ^ 32
charged-place later (ChargedBy.own e) = omega arith
charged-place later (ChargedBy.missing l) = omega arith
charged-place later {i} {tab = tab} (ChargedBy.other {x = x} o h e) = subst (λ (r : Part). part_case r < 2 ^ 32) e (said-place tab i x)

pub charge-place : {image : List ℕ} {task i : ℕ} (whole : Bool) {t : ℕ} {x : Result Part Fault} → ChargesOne image task i whole t x → part_place x < 2 ^ 32
charge-place {image} whole (OfImage.refused e) = place-small image e
charge-place whole (OfImage.accepted ok (OfTask.unknown l)) = omega arith
charge-place whole (OfImage.accepted ok (OfTask.known is_task numbered c)) = charged-place (later_of whole) c

pub part-place : {image : List ℕ} {task budget i : ℕ} {x : Result Part Fault} → HasPart image task budget i x → part_place x < 2 ^ 32
part-place {image} (OfImage.refused e) = place-small image e
part-place (OfImage.accepted ok (OfTask.unknown l)) = omega arith
part-place (OfImage.accepted ok (OfTask.known is_task numbered (PartFor.unbounded h n))) = omega arith
part-place (OfImage.accepted ok (OfTask.known is_task numbered (PartFor.bounded h m c))) = charged-place _ c

-- one number, and one row of cells
pub tells-filled-unique : {image : List ℕ} {budget : ℕ} {before after other : List ℕ} {r q : ℕ} → TellsFilled image budget before after r → TellsFilled image budget before other q → (after ≡ other) × (r ≡ q)
tells-filled-unique v w =
    let (e, f) = fills-unique v.fills w.fills in
    (f, v.number ∙ ap (λ (x : Filling). paired (filled_number x) (filled_place x)) e ∙ sym w.number)

-- where what is said is one answer, so is what is told
pub tells-made-unique : {Says : Made → Type 0} → ((x y : Made) → Says x → Says y → x ≡ y) → {before after other : List ℤ} {r q : ℕ} → TellsMade Says before after r → TellsMade Says before other q → (after ≡ other) × (r ≡ q)
tells-made-unique one {before} v w =
    let e = one v.made w.made v.says w.says in
    (v.cells ∙ ap (made_cells before) e ∙ sym w.cells, v.number ∙ ap (λ (x : Made). paired (made_number x) (made_place x)) e ∙ sym w.number)

pub tells-part-unique : {Says : Result Part Fault → Type 0} → ((x y : Result Part Fault) → Says x → Says y → x ≡ y) → {before after other : List ℕ} {r q : ℕ} → TellsPart Says before after r → TellsPart Says before other q → (after ≡ other) × (r ≡ q)
tells-part-unique one {before} v w =
    let e = one v.part w.part v.says w.says in
    (v.tells.cells ∙ ap (part_cells before) e ∙ sym w.tells.cells, v.tells.number ∙ ap (λ (x : Result Part Fault). paired (part_number x) (part_place x)) e ∙ sym w.tells.number)
