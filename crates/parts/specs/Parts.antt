-- What a caller is told of who pushed a task: what its bound is made of, and the greatest charge of one transaction; of an image, of a
-- task of its table, or why there is none.
use Rattle.std.specs.Prelude.{◌≡◌, refl, Bool, List, [], ◌∷◌, map, ℤ, pos, ℕ, ◌≤◌, ◌<◌, Option, Some, None, Result, Ok, Err}
use Rattle.std.proofs.lemmas.List.Edits.{sets}
use Rattle.refusals.specs.declared.Refusal.{Refusal}
use Rattle.refusals.specs.declared.Refusal.TheVariants.{NoTask}
use Rattle.refusals.specs.declared.Fault.{Fault}
use Rattle.refusals.specs.Answer as answer
use Rattle.refusals.specs.Answer.{number_of, place_of, option_case}
use Rattle.table.specs.Table.{Table, IsTask, transactions}
use Rattle.table.specs.Number.{in_all, number}
use Rattle.table.specs.Sample.{S}
use Rattle.format.specs.Fault.{image_fault, IsAccepted}
use Rattle.format.specs.Said.{table_in}
use Rattle.periods.specs.Charge.{imposed}
use Rattle.analysis.specs.Charge.{Later}
use Rattle.analysis.specs.Order.{Source}
use Rattle.analysis.specs.Who.{Most, nobody, charged, MostCharged}
use Rattle.analysis.specs.Parts as analysis
use Rattle.analysis.specs.Parts.{MadeOf}
use Rattle.analysis.specs.Answer.{Answer, Named, bound, named, Answers}
use Rattle.analysis.specs.Computing.{computing}
use Rattle.charge.specs.Later.{later_of}
use Rattle.parts.specs.declared.Parts.{Parts}
use Rattle.parts.specs.declared.Charge.{Charge}
use Rattle.parts.specs.declared.Part.{Part}
use Rattle.parts.specs.declared.Part.TheVariants as part

-- ---- what is told of an image, and of a task of its table

-- OfImage Told image r: r is the image's refusal, or what is told of its table
pub data OfImage {R : Type 0} (Told : Table → Result R Fault → Type 0) (image : List ℕ) : Result R Fault → Type 0 where
  refused : {refusal : Refusal} {at : ℕ} → image_fault image ≡ answer.refused refusal at → OfImage Told image (answer.refused refusal at)
  accepted : {r : Result R Fault} → IsAccepted image → Told (table_in image) r → OfImage Told image r

-- OfTask Told k tab r: r is 13 at 0 where there is no task number k, or what is told of task a of u, which it is
pub data OfTask {R : Type 0} (Told : Table → (u a : ℕ) → R → Type 0) (k : ℕ) (tab : Table) : Result R Fault → Type 0 where
  unknown : in_all tab ≤ k → OfTask Told k tab (answer.refused NoTask 0)
  known : {u a : ℕ} {r : R} → IsTask tab u a → number tab u a ≡ k → Told tab u a r → OfTask Told k tab (Ok r)

-- ---- what its bound is made of

abbrev pub parts_meant : Parts → analysis.Parts
parts_meant p =
    record {
      completion = p.completion;
      arrival = p.arrival;
      offset = p.offset;
      blocking = p.blocking;
      own_jobs = p.jobs;
      own_rivals = p.rivals;
    }

-- the answer is no bound
abbrev pub NoBound : Answer → Type 0
NoBound x = (R n : ℕ) (by : Named) → ¬ (x ≡ bound R n by)

-- task a of u has no bound under the budget; or it has one, of these parts
pub data MadeFor (budget : ℕ) (tab : Table) (u a : ℕ) : Option Parts → Type 0 where
  unbounded : {x : Answer} → Answers tab u a budget x → NoBound x → MadeFor budget tab u a None
  bounded : {R n : ℕ} {x : Source} {p : Parts} → Answers tab u a budget (bound R n (named tab u x)) → MadeOf tab u a R x (parts_meant p) → MadeFor budget tab u a (Some p)

-- what is told of a task's bound: its parts, or that it has none, or a refusal
abbrev pub Made : Type 0
Made = Result (Option Parts) Fault

-- Makes image task budget r: r is what the bound of that task is made of
abbrev pub Makes : (image : List ℕ) (task budget : ℕ) → Made → Type 0
Makes image task budget = OfImage (OfTask (MadeFor budget) task) image

-- ---- what one transaction charges

-- transaction i is there, and is not the task's own
pub record Other (tab : Table) (u i : ℕ) : Type 0 where
  pub there : i < transactions tab
  pub other : ¬ (i ≡ u)

-- who charges most, as it is told: the candidate by its number in the whole table
unfoldable pub part_said : Table → (i : ℕ) → Most → Part
part_said tab i nobody = part.NoRivals
part_said tab i (charged r x) =
    part.Charged (record { ticks = r; mode = x.mode; candidate = number tab i x.candidate })

-- task 2 of S is the first of transaction 1
S-said : map (part_said S 1) (nobody ∷ charged 3 (record { mode = 1; candidate = 0 }) ∷ []) ≡ part.NoRivals ∷ part.Charged (record { ticks = 3; mode = 1; candidate = 2 }) ∷ []
unfolding computing part_said
S-said = refl

-- what transaction i charges task a of u by t: its greatest charge, with who gives it first
pub data ChargedBy (later : Later) (i t : ℕ) (tab : Table) (u a : ℕ) : Part → Type 0 where
  own : i ≡ u → ChargedBy later i t tab u a part.Own
  missing : transactions tab ≤ i → ChargedBy later i t tab u a part.NoTransaction
  other : {x : Most} {r : Part} → Other tab u i → MostCharged later tab u a i t x → part_said tab i x ≡ r → ChargedBy later i t tab u a r

-- ChargesOne image task i whole t r: r is what transaction i charges that task by t, whole jobs at their release or what they impose
abbrev pub ChargesOne : (image : List ℕ) (task i : ℕ) (whole : Bool) (t : ℕ) → Result Part Fault → Type 0
ChargesOne image task i whole t = OfImage (OfTask (ChargedBy (later_of whole) i t) task) image

-- the part of transaction i in the bound of task a of u: what it imposes until the completion
pub data PartFor (budget i : ℕ) (tab : Table) (u a : ℕ) : Part → Type 0 where
  unbounded : {x : Answer} → Answers tab u a budget x → NoBound x → PartFor budget i tab u a part.NoBound
  bounded : {R n : ℕ} {x : Source} {p : analysis.Parts} {r : Part} → Answers tab u a budget (bound R n (named tab u x)) → MadeOf tab u a R x p → ChargedBy imposed i p.completion tab u a r → PartFor budget i tab u a r

-- HasPart image task budget i r: r is the part of transaction i in that task's bound
abbrev pub HasPart : (image : List ℕ) (task budget i : ℕ) → Result Part Fault → Type 0
HasPart image task budget i = OfImage (OfTask (PartFor budget i) task) image

-- the ticks of a part: 0 where it has none
unfoldable pub ticks_of : Part → ℕ
ticks_of part.NoBound = 0
ticks_of part.Own = 0
ticks_of part.NoTransaction = 0
ticks_of part.NoRivals = 0
ticks_of (part.Charged c) = c.ticks

unfoldable pub ticks_told : Result Part Fault → ℕ
ticks_told (Ok x) = ticks_of x
ticks_told (Err f) = 0

-- ---- as numbers and cells

-- the refusal's number, or 0
abbrev pub made_number : Made → ℕ
made_number r = number_of r

-- the refusal's place, or which case it is
abbrev pub made_place : Made → ℕ
made_place r = place_of option_case r

abbrev pub parts_listed : Parts → List ℤ
parts_listed p =
    pos p.completion ∷ p.arrival ∷ pos p.offset ∷ pos p.blocking ∷ pos p.jobs ∷ pos p.rivals ∷ []

-- the cells with the parts, where they are given
abbrev pub made_cells : List ℤ → Made → List ℤ
made_cells before (Ok (Some p)) = sets before 0 (parts_listed p)
made_cells before (Ok None) = before
made_cells before (Err f) = before

abbrev pub part_case : Part → ℕ
part_case part.NoBound = 1
part_case part.Own = 2
part_case part.NoTransaction = 3
part_case part.NoRivals = 4
part_case (part.Charged c) = 0

abbrev pub part_number : Result Part Fault → ℕ
part_number r = number_of r

abbrev pub part_place : Result Part Fault → ℕ
part_place r = place_of part_case r

abbrev pub charge_listed : Charge → List ℕ
charge_listed c = c.ticks ∷ c.mode ∷ c.candidate ∷ []

abbrev pub part_cells : List ℕ → Result Part Fault → List ℕ
part_cells before (Ok part.NoBound) = before
part_cells before (Ok part.Own) = before
part_cells before (Ok part.NoTransaction) = before
part_cells before (Ok part.NoRivals) = before
part_cells before (Ok (part.Charged c)) = sets before 0 (charge_listed c)
part_cells before (Err f) = before
