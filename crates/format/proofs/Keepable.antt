-- The rule for deadlines that can be kept, left out and asked for: with any deadline let in an image, or a table that is to be written,
-- has the answer that it has now, unless that is 14; and it is accepted now exactly where it is accepted so and every task keeps the rule.
use mathlib.Core.Path.{◌≡◌, refl}
use mathlib.Core.List.{List}
use Prim.Native.Nat.{ℕ}
use Rattle.refusals.specs.declared.Refusal.{Refusal}
use Rattle.refusals.specs.Answer.{accepted, refused}
use Rattle.refusals.proofs.Findings.{then-joins, none_first, none-second, Stays, stays-accepted, stays-refused, stays_then}
use Rattle.table.specs.Table.{Table}
use Rattle.table.specs.Limits.{Limits, limits}
use Rattle.table.specs.Rules.Deadlines.{any, keepable}
use Rattle.table.specs.Raised.{limits_before}
use Rattle.table.specs.Keepable.{EachKeepable, IsShort}
use Rattle.table.proofs.Accepted.{Reads}
use Rattle.table.proofs.Keepable.{stays-short, keepable-clear, clear-keepable}
use Rattle.format.specs.Said.{table_in}
use Rattle.format.specs.Fault.{image_look, fault_under, image_fault, IsAccepted}
use Rattle.format.specs.Write.{table_look, table_fault_under, table_fault}
use Rattle.format.proofs.Kept.{reads}
use Rattle.format.proofs.Raised.{accepted-still}

module _ (most : Limits) where
  pub image-short : (image : List ℕ) → Stays IsShort (fault_under most keepable image) (fault_under most any image)
  image-short image = stays_then IsShort _ (stays-short most (image_look image)) (λ _. refl)

  pub table-short : (tab : Table) → Stays IsShort (table_fault_under most keepable tab) (table_fault_under most any tab)
  table-short tab = stays-short most (table_look tab)

-- ---- an image

module _ (image : List ℕ) where
  -- an image that is refused, but by 14, was refused with that number at that place
  pub refused-before : {refusal : Refusal} {at : ℕ} → image_fault image ≡ refused refusal at → ¬ IsShort refusal → fault_under limits any image ≡ refused refusal at
  unfolding image_fault
  refused-before = stays-refused IsShort (image-short limits image)

  pub accepted-before : IsAccepted image → fault_under limits any image ≡ accepted
  unfolding image_fault
  accepted-before = stays-accepted IsShort (image-short limits image)

  pub accepted-keepable : IsAccepted image → EachKeepable (table_in image)
  unfolding image_fault
  accepted-keepable ok = clear-keepable (reads image) limits (none_first _ _ ok)

  pub keepable-accepted : fault_under limits any image ≡ accepted → EachKeepable (table_in image) → IsAccepted image
  unfolding image_fault
  keepable-accepted before kept = then-joins.none (keepable-clear (reads image) limits (none_first _ _ before) kept) (none-second _ _ before)

  -- so what document 01 accepted, under its own limits too, is accepted where every task keeps the rule
  pub accepted-since : fault_under limits_before any image ≡ accepted → EachKeepable (table_in image) → IsAccepted image
  accepted-since before = keepable-accepted (accepted-still any image before)

-- ---- a table that is to be written

module _ (tab : Table) where
  own-reads : Reads (table_look tab) tab
  own-reads = record { number = λ f has. refl }

  pub unwritable-before : {refusal : Refusal} {at : ℕ} → table_fault tab ≡ refused refusal at → ¬ IsShort refusal → table_fault_under limits any tab ≡ refused refusal at
  unfolding table_fault
  unwritable-before = stays-refused IsShort (table-short limits tab)

  pub writable-before : table_fault tab ≡ accepted → table_fault_under limits any tab ≡ accepted
  unfolding table_fault
  writable-before = stays-accepted IsShort (table-short limits tab)

  pub writable-keepable : table_fault tab ≡ accepted → EachKeepable tab
  unfolding table_fault
  writable-keepable ok = clear-keepable own-reads limits ok

  pub keepable-writable : table_fault_under limits any tab ≡ accepted → EachKeepable tab → table_fault tab ≡ accepted
  unfolding table_fault
  keepable-writable before kept = keepable-clear own-reads limits before kept
