-- A table's rules, once: they go over its fields in image order and ask of each first what is found of the field itself and then its
-- rule. Who asks brings a look at the fields, the way findings are joined, the limits and the deadlines that are let in; the reader of
-- an image brings what its bits say, who writes a table the table's own numbers, and both the first finding, the limits that there
-- are and only deadlines that can be kept.
use Rattle.std.specs.Prelude.{Bool, ◌&&◌, ℕ, ◌+◌, ◌%◌, leb, eqb}
use Rattle.refusals.specs.declared.Refusal.{Refusal}
use Rattle.refusals.specs.declared.Refusal.TheVariants.{EditionUnknown, FrameZero, TransactionCount, PeriodUnfit, ModeCount, TaskCount, DeadlineZero, NeverRuns, DeadlineShort}
use Rattle.refusals.specs.Answer.{Answer, accepted, found_of, checked}
use Rattle.table.specs.Sum.{sum, greatest}
use Rattle.table.specs.Limits.{Limits, edition_known}
use Rattle.table.specs.Fields.{HeaderField, HeadField, TaskField, Field}
use Rattle.table.specs.Fields.HeaderField.{edition, frame, count}
use Rattle.table.specs.Fields.HeadField.{period, modes, tasks}
use Rattle.table.specs.Fields.TaskField.{offset, jitter, blocking, deadline, priority, time}
use Rattle.table.specs.Fields.Field.{header, head, task}

-- of each field its own finding (the image ends inside it; its number is too large for it); its place; and its number
pub record Look (F : Type 0) : Type 0 where
  pub finding : F → Answer
  pub place : F → ℕ
  pub number : F → ℕ

-- the part of a look whose fields stand there
abbrev pub part : {F G : Type 0} → (F → G) → Look G → Look F
part at look = record { finding = λ f. look.finding (at f); place = λ f. look.place (at f); number = λ f. look.number (at f) }

abbrev pub is_between : (least most n : ℕ) → Bool
is_between least most n = leb least n && leb n most

abbrev pub is_divisor : (major T : ℕ) → Bool
is_divisor major T = leb 1 T && eqb (major % T) 0

-- the deadlines that are let in: any but 0, as in document 01, or of these only such as can be kept, which is document 02's rule
pub data Deadlines : Type 0 where
  any keepable : Deadlines

-- that rule's finding, where it is asked for
abbrev pub asked : Deadlines → Answer → Answer
asked any found = accepted
asked keepable found = found

module _ (◌then◌ : Answer → Answer → Answer) where
  infixl 20 ◌then◌
  -- a field's rule: its own finding, then its check, which refuses at its place
  abbrev pub rule : {F : Type 0} → Look F → F → (holds : Bool) → Refusal → Answer
  rule look f holds refusal = look.finding f then checked holds refusal (look.place f)

  module _ (limits : Limits) where
    unfoldable pub header_rules : Look HeaderField → Answer
    header_rules look =
        rule look edition (eqb (look.number edition) edition_known) EditionUnknown
        then rule look frame (leb 1 (look.number frame)) FrameZero
        then rule look count (is_between 1 limits.transactions (look.number count)) TransactionCount

    -- under that major frame, where `before` tasks stand before the transaction
    unfoldable pub head_rules : (major before : ℕ) → Look HeadField → Answer
    head_rules major before look =
        rule look period (is_divisor major (look.number period)) PeriodUnfit
        then rule look modes (is_between 1 limits.modes (look.number modes)) ModeCount
        then rule look tasks (is_between 1 limits.tasks (look.number tasks) && leb (before + look.number tasks) limits.in_all) TaskCount

  module _ (deadlines : Deadlines) where
    -- of so many modes; that it never runs is seen behind its last time, and refused at its first, and then that its deadline is below
    -- its offset plus its greatest time, which is refused at the deadline
    unfoldable pub task_rules : (many : ℕ) → Look TaskField → Answer
    task_rules many look =
        look.finding offset
        then look.finding jitter
        then look.finding blocking
        then rule look deadline (leb 1 (look.number deadline)) DeadlineZero
        then look.finding priority
        then found_of ◌then◌ many (λ m. look.finding (time m))
        then checked (leb 1 (sum many (λ m. look.number (time m)))) NeverRuns (look.place (time 0))
        then asked deadlines (checked (leb (look.number offset + greatest many (λ m. look.number (time m))) (look.number deadline)) DeadlineShort (look.place deadline))

  module _ (limits : Limits) (deadlines : Deadlines) where
    unfoldable pub transaction_rules : (major before : ℕ) → Look HeadField → (ℕ → Look TaskField) → Answer
    transaction_rules major before look each =
        head_rules limits major before look
        then found_of ◌then◌ (look.number tasks) (λ j. task_rules deadlines (look.number modes) (each j))

    unfoldable pub body_rules : Look Field → Answer
    body_rules look =
        found_of ◌then◌ (look.number (header count))
        (λ u. transaction_rules (look.number (header frame)) (sum u (λ v. look.number (head v tasks))) (part (head u) look) (λ j. part (task u j) look))

    unfoldable pub table_rules : Look Field → Answer
    table_rules look = header_rules limits (part header look) then body_rules look
