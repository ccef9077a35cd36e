-- What a host in C is told of who pushed a task: number × 2^32 + place, where a case that is no refusal has the number 0 and stands in
-- the place, and the cells, which stay as they were where there is nothing to give.
use Rattle.std.specs.Prelude.{◌≡◌, refl, Bool, not, List, [], ◌∷◌, map, eqb, ℤ, pos, negsuc, ℕ, Some, None, Result, Ok}
use Rattle.refusals.specs.declared.Refusal.TheVariants.{DeadlineZero}
use Rattle.refusals.specs.declared.Fault.{Fault}
use Rattle.refusals.specs.Answer.{refused}
use Rattle.told.specs.Told.{Filling, filled_number, filled_place, Fills, paired}
use Rattle.parts.specs.declared.Part.{Part}
use Rattle.parts.specs.declared.Part.TheVariants as part
use Rattle.parts.specs.Parts.{Made, made_number, made_place, made_cells, part_number, part_place, part_cells}

-- released where the number is not 0, else imposed
abbrev pub is_whole : ℕ → Bool
is_whole n = not (eqb n 0)

-- TellsFilled image budget before after r: the cells of every task, and r is 0, or number × 2^32 + place
pub record TellsFilled (image : List ℕ) (budget : ℕ) (before after : List ℕ) (r : ℕ) : Type 0 where
  pub filled : Filling
  pub fills : Fills image budget before after filled
  pub number : r ≡ paired (filled_number filled) (filled_place filled)

-- TellsMade Says before after r: the cells were `before` and are `after`, and r is the number, of the parts that Says allows
pub record TellsMade (Says : Made → Type 0) (before after : List ℤ) (r : ℕ) : Type 0 where
  pub made : Made
  pub says : Says made
  pub cells : after ≡ made_cells before made
  pub number : r ≡ paired (made_number made) (made_place made)

-- the same of a given answer on one transaction
pub record TellsAs (x : Result Part Fault) (before after : List ℕ) (r : ℕ) : Type 0 where
  pub cells : after ≡ part_cells before x
  pub number : r ≡ paired (part_number x) (part_place x)

-- and of the one that Says allows
pub record TellsPart (Says : Result Part Fault → Type 0) (before after : List ℕ) (r : ℕ) : Type 0 where
  pub part : Result Part Fault
  pub says : Says part
  pub tells : TellsAs part before after r

-- the parts of document 01's J 12 task, no bound, and 8 at 139
parts-told :
    map (λ (x : Made). paired (made_number x) (made_place x)) (Ok (Some (record { completion = 2; arrival = negsuc 11; offset = 0; blocking = 0; jobs = 2; rivals = 0 })) ∷ Ok None ∷ refused DeadlineZero 139 ∷ [])
    ≡ 0 ∷ 1 ∷ 34_359_738_507 ∷ []
unfolding paired
parts-told = refl

cells_told :
    map (made_cells (pos 7 ∷ pos 7 ∷ pos 7 ∷ pos 7 ∷ pos 7 ∷ pos 7 ∷ [])) (Ok (Some (record { completion = 2; arrival = negsuc 11; offset = 0; blocking = 0; jobs = 2; rivals = 0 })) ∷ Ok None ∷ [])
    ≡ (pos 2 ∷ negsuc 11 ∷ pos 0 ∷ pos 0 ∷ pos 2 ∷ pos 0 ∷ [])
    ∷ (pos 7 ∷ pos 7 ∷ pos 7 ∷ pos 7 ∷ pos 7 ∷ pos 7 ∷ [])
    ∷ []
cells_told = refl

-- a charge, and each case without one
cases-told :
    map (λ (x : Result Part Fault). paired (part_number x) (part_place x)) (Ok (part.Charged (record { ticks = 3; mode = 1; candidate = 2 })) ∷ Ok part.NoBound ∷ Ok part.Own ∷ Ok part.NoTransaction ∷ Ok part.NoRivals ∷ [])
    ≡ 0 ∷ 1 ∷ 2 ∷ 3 ∷ 4 ∷ []
unfolding paired
cases-told = refl

charge-told :
    map (part_cells (7 ∷ 7 ∷ 7 ∷ [])) (Ok (part.Charged (record { ticks = 3; mode = 1; candidate = 2 })) ∷ Ok part.Own ∷ [])
    ≡ (3 ∷ 1 ∷ 2 ∷ [])
    ∷ (7 ∷ 7 ∷ 7 ∷ [])
    ∷ []
charge-told = refl
