-- Under limits that were raised every image, and every table that is to be written, gets the answer that it had, unless that was 4 or 7.
use mathlib.Core.Path.{◌≡◌, refl}
use mathlib.Core.List.{List}
use Prim.Native.Nat.{ℕ}
use Rattle.refusals.specs.declared.Refusal.{Refusal}
use Rattle.refusals.specs.Answer.{accepted, refused}
use Rattle.refusals.proofs.Findings.{Stays, stays-accepted, stays-refused, stays_then}
use Rattle.table.specs.Table.{Table}
use Rattle.table.specs.Limits.{Limits, limits}
use Rattle.table.specs.Rules.{Deadlines}
use Rattle.table.specs.Raised.{Raises, limits_before, IsCount}
use Rattle.table.proofs.Raised.{stays-table, raised-before}
use Rattle.format.specs.Fault.{image_look, fault_under}
use Rattle.format.specs.Write.{table_look, table_fault_under}

module _ {small large : Limits} (raised : Raises small large) where
  pub image-stays : (deadlines : Deadlines) (image : List ℕ) → Stays IsCount (fault_under small deadlines image) (fault_under large deadlines image)
  image-stays deadlines image = stays_then IsCount _ (stays-table raised deadlines (image_look image)) (λ _. refl)

  pub table_stays : (deadlines : Deadlines) (tab : Table) → Stays IsCount (table_fault_under small deadlines tab) (table_fault_under large deadlines tab)
  table_stays deadlines tab = stays-table raised deadlines (table_look tab)

-- ---- document 01's limits and those that there are, whatever deadlines are let in

module _ (deadlines : Deadlines) where
  -- an image that was accepted is accepted
  pub accepted-still : (image : List ℕ) → fault_under limits_before deadlines image ≡ accepted → fault_under limits deadlines image ≡ accepted
  accepted-still image = stays-accepted IsCount (image-stays raised-before deadlines image)

  -- one that was refused, but by 4 or 7, is refused with that number at that place
  pub refused-still :
      (image : List ℕ) {refusal : Refusal} {at : ℕ}
      → fault_under limits_before deadlines image ≡ refused refusal at
      → ¬ IsCount refusal
      → fault_under limits deadlines image ≡ refused refusal at
  refused-still image = stays-refused IsCount (image-stays raised-before deadlines image)

  -- the same of a table that is to be written

  pub writable-still : (tab : Table) → table_fault_under limits_before deadlines tab ≡ accepted → table_fault_under limits deadlines tab ≡ accepted
  writable-still tab = stays-accepted IsCount (table_stays raised-before deadlines tab)

  pub unwritable-still :
      (tab : Table) {refusal : Refusal} {at : ℕ}
      → table_fault_under limits_before deadlines tab ≡ refused refusal at
      → ¬ IsCount refusal
      → table_fault_under limits deadlines tab ≡ refused refusal at
  unwritable-still tab = stays-refused IsCount (table_stays raised-before deadlines tab)
