-- A greater budget alters no parts that were given, and no refusal: only a bound that there was not may come to be.
use mathlib.Core.Path.{◌≡◌, refl}
use mathlib.Core.List.{List}
use Prim.Native.Nat.{ℕ, ◌≤◌}
use native.Mathlib.Omega.{arith}
use Rattle.analysis.specs.Answer.{bound, spent}
use Rattle.analysis.proofs.Budget.{answers-greater}
use Rattle.parts.specs.declared.Part.{Part}
use Rattle.parts.specs.declared.Part.TheVariants as part
use Rattle.std.specs.Prelude.{Result, Ok, None}
use Rattle.refusals.specs.declared.Fault.{Fault}
use Rattle.parts.specs.Parts.{Made, OfImage, OfTask, MadeFor, Makes, PartFor, HasPart}
use Rattle.parts.proofs.Unique.{makes-unique, has-part-unique}

-- a bound is no spent budget
not-spent : {R n k : ℕ} {by : _} → ¬ (bound R n by ≡ spent k)
not-spent e = let z : ◌≡◌ {A = ℕ} 0 1 = cc in omega arith

module _ {image : List ℕ} {task b d : ℕ} (l : b ≤ d) where
  pub greater-made : {r q : Made} → Makes image task b r → Makes image task d q → ¬ (r ≡ Ok None) → q ≡ r
  greater-made {r} x y given = makes-unique y (go x given)
    where
      go : {r : Made} → Makes image task b r → ¬ (r ≡ Ok None) → Makes image task d r
      go (OfImage.refused h) given = OfImage.refused h
      go (OfImage.accepted ok (OfTask.unknown h)) given = OfImage.accepted ok (OfTask.unknown h)
      go (OfImage.accepted ok (OfTask.known is_task numbered (MadeFor.unbounded h n))) given = absurd (given refl)
      go (OfImage.accepted ok (OfTask.known is_task numbered (MadeFor.bounded h v))) given =
          OfImage.accepted ok (OfTask.known is_task numbered (MadeFor.bounded (answers-greater l h (λ n. not-spent)) v))

  pub greater-part : {i : ℕ} {r q : Result Part Fault} → HasPart image task b i r → HasPart image task d i q → ¬ (r ≡ Ok part.NoBound) → q ≡ r
  greater-part {i} {r} x y given = has-part-unique y (go x given)
    where
      go : {r : Result Part Fault} → HasPart image task b i r → ¬ (r ≡ Ok part.NoBound) → HasPart image task d i r
      go (OfImage.refused h) given = OfImage.refused h
      go (OfImage.accepted ok (OfTask.unknown h)) given = OfImage.accepted ok (OfTask.unknown h)
      go (OfImage.accepted ok (OfTask.known is_task numbered (PartFor.unbounded h n))) given = absurd (given refl)
      go (OfImage.accepted ok (OfTask.known is_task numbered (PartFor.bounded h v c))) given =
          OfImage.accepted ok (OfTask.known is_task numbered (PartFor.bounded (answers-greater l h (λ n. not-spent)) v c))
