-- The part of a transaction is what it charges at the completion, and comes of two answers: what the bound is made of, and what the
-- transaction charges by then.
use mathlib.Core.Path.{sym, ◌∙◌, subst₂}
use mathlib.Core.Bool.{false}
use mathlib.Core.List.{List}
use Prim.Native.Nat.{ℕ}
use native.Mathlib.Omega.{arith}
use Rattle.refusals.specs.declared.Refusal.{Refusal}
use Rattle.table.proofs.Number.{number-unique, number_lt}
use Rattle.periods.specs.Charge.{imposed}
use Rattle.format.specs.Said.{table_in}
use Rattle.parts.specs.declared.Parts.{Parts}
use Rattle.parts.specs.declared.Part.{Part}
use Rattle.parts.specs.declared.Part.TheVariants as part
use Rattle.std.specs.Prelude.{Result, Ok, Some, None}
use Rattle.refusals.specs.declared.Fault.{Fault}
use Rattle.refusals.specs.Answer.{refused}
use Rattle.parts.specs.Parts.{OfImage, OfTask, MadeFor, Makes, ChargedBy, ChargesOne, PartFor, HasPart}
use Rattle.parts.proofs.Unique.{clash}

module _ {image : List ℕ} {task budget i : ℕ} where
  pub part-refused : {refusal : Refusal} {at : ℕ} → Makes image task budget (refused refusal at) → HasPart image task budget i (refused refusal at)
  part-refused (OfImage.refused e) = OfImage.refused e
  part-refused (OfImage.accepted ok (OfTask.unknown l)) = OfImage.accepted ok (OfTask.unknown l)

  pub part_none : Makes image task budget (Ok None) → HasPart image task budget i (Ok part.NoBound)
  part_none (OfImage.accepted ok (OfTask.known is_task numbered (MadeFor.unbounded h n))) =
      OfImage.accepted ok (OfTask.known is_task numbered (PartFor.unbounded h n))

  pub part-charged : {p : Parts} {r : Result Part Fault} → Makes image task budget (Ok (Some p)) → ChargesOne image task i false p.completion r → HasPart image task budget i r
  part-charged (OfImage.accepted ok made) (OfImage.refused e) = absurd (clash image e ok)
  part-charged {p} {r} (OfImage.accepted ok (OfTask.known is_task numbered (MadeFor.bounded h m))) (OfImage.accepted yet (OfTask.unknown l)) =
      absurd (omega (arith, number_lt (table_in image) is_task, numbered))
  part-charged {p} (OfImage.accepted ok (OfTask.known is_task numbered (MadeFor.bounded h m))) (OfImage.accepted yet (OfTask.known {r = r} other same c)) =
      let (e, f) = number-unique (table_in image) other is_task (same ∙ sym numbered) in
      OfImage.accepted ok (OfTask.known is_task numbered (PartFor.bounded h m (subst₂ (λ (u a : ℕ). ChargedBy imposed i p.completion (table_in image) u a r) e f c)))
