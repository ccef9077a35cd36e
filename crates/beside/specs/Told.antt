-- What a caller is told of the plain analysis: the table's refusals first, then 13, then 31; then 32 or the response, and of the
-- approximation 33 or its value. The place of 13 and of 31 to 33 is 0.
use Rattle.std.specs.Prelude.{◌≡◌, refl, ◌⊎◌, List, [], ◌∷◌, map, ℕ, ◌≤◌, ◌<◌, Result, Ok, Err}
use Rattle.refusals.specs.declared.Refusal.{Refusal}
use Rattle.refusals.specs.declared.Refusal.TheVariants.{DeadlineZero, NoTask}
use Rattle.refusals.specs.declared.PlainRefusal.TheVariants.{NotSingle, NoCompletion, OutOfRange}
use Rattle.refusals.specs.declared.PlainRefusal.{PlainRefusal}
use Rattle.refusals.specs.Answer as said
use Rattle.refusals.specs.Answer.{fault_at, refusal_number, plain_number}
use Rattle.table.specs.Table.{Table, period, jitter, time}
use Rattle.table.specs.Number.{in_all}
use Rattle.table.specs.Limits.{horizon}
use Rattle.row.specs.Row.{table_of}
use Rattle.format.specs.Fault.{image_fault, IsAccepted}
use Rattle.format.specs.Said.{table_in}
use Rattle.told.specs.Told.{paired}
use Rattle.jitter.specs.Request.{approximate}
use Rattle.jitter.specs.Plain.{Single, Completion, response_of, Never}
use Rattle.beside.specs.declared.Unanswered.{Unanswered}
use Rattle.beside.specs.declared.Unanswered.TheVariants.{Refused, Unfit}
use Rattle.beside.specs.declared.reads.Alone.{Alone}

-- ---- why there is no answer

abbrev pub turned_away : {A : Type 0} → Refusal → ℕ → Result A Unanswered
turned_away refusal at = Err (Refused (fault_at refusal at))

abbrev pub unfit : {A : Type 0} → PlainRefusal → Result A Unanswered
unfit refusal = Err (Unfit refusal)

-- ---- the response of one task

-- in ticks
abbrev pub Response : Type 0
Response = Result ℕ Unanswered

-- RespondsFrom tab u r: of a table with one task and one mode in each transaction
pub data RespondsFrom (tab : Table) (u : ℕ) : Response → Type 0 where
  never : Never tab u → RespondsFrom tab u (unfit NoCompletion)
  completes : {t : ℕ} → Completion tab u t → t ≤ horizon → RespondsFrom tab u (Ok (response_of tab u t))

-- Responds image task r: r is the answer for that task of the image
pub data Responds (image : List ℕ) (task : ℕ) : Response → Type 0 where
  refused : {refusal : Refusal} {at : ℕ} → image_fault image ≡ said.refused refusal at → Responds image task (turned_away refusal at)
  unknown : IsAccepted image → in_all (table_in image) ≤ task → Responds image task (turned_away NoTask 0)
  several : IsAccepted image → task < in_all (table_in image) → ¬ (Single (table_in image)) → Responds image task (unfit NotSingle)
  single : {r : Response} → IsAccepted image → task < in_all (table_in image) → Single (table_in image) → RespondsFrom (table_in image) task r → Responds image task r

-- ---- the approximation of what it requests by t

-- in T-ths of a tick
abbrev pub Approximation : Type 0
Approximation = Result ℕ Unanswered

abbrev pub approximation_of : Table → (u k t : ℕ) → ℕ
approximation_of tab u k t = approximate k (period tab u) (jitter tab u 0) (time tab u 0 0) t

pub data ApproximatesFrom (tab : Table) (u k t : ℕ) : Approximation → Type 0 where
  outside : (k ≡ 0) ⊎ (horizon < t) → ApproximatesFrom tab u k t (unfit OutOfRange)
  given : 1 ≤ k → t ≤ horizon → ApproximatesFrom tab u k t (Ok (approximation_of tab u k t))

pub data Approximates (image : List ℕ) (task k t : ℕ) : Approximation → Type 0 where
  refused : {refusal : Refusal} {at : ℕ} → image_fault image ≡ said.refused refusal at → Approximates image task k t (turned_away refusal at)
  unknown : IsAccepted image → in_all (table_in image) ≤ task → Approximates image task k t (turned_away NoTask 0)
  several : IsAccepted image → task < in_all (table_in image) → ¬ (Single (table_in image)) → Approximates image task k t (unfit NotSingle)
  single : {r : Approximation} → IsAccepted image → task < in_all (table_in image) → Single (table_in image) → ApproximatesFrom (table_in image) task k t r → Approximates image task k t r

-- ---- what both find first: how the code gets there

-- the task stands in a row that holds the table where there is no refusal
pub data Opens (image : List ℕ) (task : ℕ) : Result Alone Unanswered → Type 0 where
  refused : {refusal : Refusal} {at : ℕ} → image_fault image ≡ said.refused refusal at → Opens image task (turned_away refusal at)
  unknown : IsAccepted image → in_all (table_in image) ≤ task → Opens image task (turned_away NoTask 0)
  several : IsAccepted image → task < in_all (table_in image) → ¬ (Single (table_in image)) → Opens image task (unfit NotSingle)
  single : {x : Alone} → IsAccepted image → task < in_all (table_in image) → table_of x.row.now ≡ table_in image → x.u ≡ task → Opens image task (Ok x)

-- ---- for a host in C

-- the documents' number where there is no answer, and the place of a refusal
abbrev pub unanswered_number : Unanswered → ℕ
unanswered_number (Refused f) = refusal_number f.refusal
unanswered_number (Unfit refusal) = plain_number refusal

abbrev pub unanswered_place : Unanswered → ℕ
unanswered_place (Refused f) = f.place
unanswered_place (Unfit refusal) = 0

-- 0 for a response, and what is told beside it: the response itself
abbrev pub response_number : Response → ℕ
response_number (Ok ticks) = 0
response_number (Err e) = unanswered_number e

abbrev pub response_value : Response → ℕ
response_value (Ok ticks) = ticks
response_value (Err e) = unanswered_place e

pub record TellsResponse (image : List ℕ) (task r : ℕ) : Type 0 where
  pub response : Response
  pub responds : Responds image task response
  pub number : r ≡ paired (response_number response) (response_value response)

-- a response of 14 ticks, 8 at 139, and 32
responses-told :
    map (λ (x : Response). paired (response_number x) (response_value x)) (Ok 14 ∷ turned_away DeadlineZero 139 ∷ unfit NoCompletion ∷ [])
    ≡ 14 ∷ 34_359_738_507 ∷ 137_438_953_472 ∷ []
unfolding paired
responses-told = refl

abbrev pub approximation_number : Approximation → ℕ
approximation_number (Ok ths) = 0
approximation_number (Err e) = unanswered_number e

abbrev pub approximation_place : Approximation → ℕ
approximation_place (Ok ths) = 0
approximation_place (Err e) = unanswered_place e

-- the cell, which was `before`: the value, or what it was
abbrev pub approximation_cell : (before : List ℕ) → Approximation → List ℕ
approximation_cell before (Ok ths) = ths ∷ []
approximation_cell before (Err e) = before

pub record TellsApproximation (image : List ℕ) (task k t : ℕ) (before after : List ℕ) (r : ℕ) : Type 0 where
  pub approximation : Approximation
  pub approximates : Approximates image task k t approximation
  pub cell : after ≡ approximation_cell before approximation
  pub number : r ≡ paired (approximation_number approximation) (approximation_place approximation)
