-- What is said of an image: document 01's number and place for each answer, and which of several findings is given.
use Rattle.std.specs.Prelude.{Bool, true, false, ℕ, zero, suc, Option, Some, None, Result, Ok, Err, is_ok, ⊤}
use Rattle.refusals.specs.declared.Refusal.{Refusal}
use Rattle.refusals.specs.declared.Refusal.TheVariants.{EndsInside, EditionUnknown, FrameZero, TransactionCount, PeriodUnfit, ModeCount, TaskCount, DeadlineZero, NeverRuns, PaddingSet, BytesFollow, NoRoom, NoTask, DeadlineShort, TooLarge, BufferShort}
use Rattle.refusals.specs.declared.PlainRefusal.{PlainRefusal}
use Rattle.refusals.specs.declared.PlainRefusal.TheVariants.{NotSingle, NoCompletion, OutOfRange}
use Rattle.refusals.specs.declared.Fault.{Fault}

infixl 20 ◌then◌
abbrev pub refusal_number : Refusal → ℕ
refusal_number EndsInside = 1
refusal_number EditionUnknown = 2
refusal_number FrameZero = 3
refusal_number TransactionCount = 4
refusal_number PeriodUnfit = 5
refusal_number ModeCount = 6
refusal_number TaskCount = 7
refusal_number DeadlineZero = 8
refusal_number NeverRuns = 9
refusal_number PaddingSet = 10
refusal_number BytesFollow = 11
refusal_number NoRoom = 12
refusal_number NoTask = 13
refusal_number DeadlineShort = 14
refusal_number TooLarge = 29
refusal_number BufferShort = 30

-- of the plain analysis, document 02's
abbrev pub plain_number : PlainRefusal → ℕ
plain_number NotSingle = 31
plain_number NoCompletion = 32
plain_number OutOfRange = 33

-- accepted, or refused with a fault
abbrev pub Answer : Type 0
Answer = Result ⊤ Fault

abbrev pub accepted : Answer
accepted = Ok tt

abbrev pub fault_at : Refusal → ℕ → Fault
fault_at refusal at = record { refusal = refusal; place = at }

abbrev pub refused : {A : Type 0} → Refusal → ℕ → Result A Fault
refused refusal at = Err (fault_at refusal at)

-- of anything that may be refused: document 01's number
abbrev pub number_of : {A : Type 0} → Result A Fault → ℕ
number_of (Ok x) = 0
number_of (Err f) = refusal_number f.refusal

-- and its place, or what the case of a value that is not refused is
abbrev pub place_of : {A : Type 0} → (A → ℕ) → Result A Fault → ℕ
place_of case_of (Ok x) = case_of x
place_of case_of (Err f) = f.place

-- 0 where no more is said, and 1 where there is nothing to say
abbrev pub nothing_more : ⊤ → ℕ
nothing_more x = 0

abbrev pub option_case : {A : Type 0} → Option A → ℕ
option_case (Some x) = 0
option_case None = 1

abbrev pub answer_number : Answer → ℕ
answer_number a = number_of a

abbrev pub answer_place : Answer → ℕ
answer_place a = place_of nothing_more a

abbrev pub is_accepted : Answer → Bool
is_accepted a = is_ok a

-- the first of two findings
unfoldable pub ◌then◌ : Answer → Answer → Answer
Ok x then b = b
Err f then b = Err f

-- n findings, joined in order
unfoldable pub found_of : (join : Answer → Answer → Answer) → ℕ → (ℕ → Answer) → Answer
found_of join zero f = accepted
found_of join (suc n) f = join (found_of join n f) (f n)

-- the first of n findings
unfoldable pub first_of : ℕ → (ℕ → Answer) → Answer
unfolding found_of
first_of n f = found_of ◌then◌ n f

-- a field's check: a refusal at its place where the check does not hold
unfoldable pub checked : Bool → Refusal → ℕ → Answer
checked true refusal at = accepted
checked false refusal at = refused refusal at
