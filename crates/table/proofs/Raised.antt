-- A table's rules under limits that were raised: what they found they find again, unless it was a 4 or a 7. For any look.
use mathlib.Core.Path.{◌≡◌, refl}
use mathlib.Core.Bool.{Bool, true, false, ◌&&◌}
use mathlib.Core.Logic.{inl, inr}
use Prim.Native.Nat.{ℕ, ◌+◌, ◌^◌, ◌≤◌, ◌<◌}
use native.Mathlib.Nat.{le_trans}
use native.Mathlib.Omega.{arith}
use lib.Dec.{leb, lit≤}
use borrow.Author.Tests.{leb-true, le-leb}
use Rattle.refusals.specs.Answer.{◌then◌, first_of}
use Rattle.refusals.proofs.Findings.{both_first, both-second, both_hold, Stays, stays-checked, stays_then, stays-first}
use Rattle.table.specs.Limits.{Limits, limits, transactions_most, transactions_width}
use Rattle.table.specs.Fields.{HeaderField, HeadField, TaskField, Field}
use Rattle.table.specs.Rules.{Look, part, is_between, Deadlines, header_rules, head_rules, task_rules, transaction_rules, body_rules, table_rules}
use Rattle.table.specs.Raised.{Raises, limits_before, IsCount}

up_to : (n : ℕ) {most more : ℕ} → most ≤ more → leb n most ≡ true → leb n more ≡ true
up_to n h within = le-leb _ _ (le_trans (leb-true _ _ within) h)

between : (least n : ℕ) {most more : ℕ} → most ≤ more → is_between least most n ≡ true → is_between least more n ≡ true
between least n h within = both_hold (both_first (leb least n) _ within) (up_to n h (both-second (leb least n) _ within))

module _ {small large : Limits} (raised : Raises small large) where
  stays-header : (look : Look HeaderField) → Stays IsCount (header_rules ◌then◌ small look) (header_rules ◌then◌ large look)
  unfolding header_rules
  stays-header look =
      stays_then IsCount _ (λ _. refl)
      (stays_then IsCount _ (λ _. refl)
      (stays-checked IsCount _ _ _ (inl refl) (between 1 (look.number HeaderField.count) raised.transactions)))

  stays-head : (major before : ℕ) (look : Look HeadField) → Stays IsCount (head_rules ◌then◌ small major before look) (head_rules ◌then◌ large major before look)
  unfolding head_rules
  stays-head major before look =
      let n = look.number HeadField.tasks in
      rw (← raised.modes)
      (stays_then IsCount _ (λ _. refl)
      (stays_then IsCount _ (λ _. refl)
      (stays-checked IsCount _ _ _ (inr refl)
      (λ within.
      both_hold (between 1 n raised.tasks (both_first (is_between 1 small.tasks n) _ within))
      (up_to (before + n) raised.in_all (both-second (is_between 1 small.tasks n) _ within))))))

  stays-transaction :
      (deadlines : Deadlines) (major before : ℕ) (look : Look HeadField) (each : ℕ → Look TaskField)
      → Stays IsCount (transaction_rules ◌then◌ small deadlines major before look each) (transaction_rules ◌then◌ large deadlines major before look each)
  unfolding transaction_rules task_rules
  stays-transaction deadlines major before look each = stays_then IsCount _ (stays-head major before look) (λ _. refl)

  pub stays-table : (deadlines : Deadlines) (look : Look Field) → Stays IsCount (table_rules ◌then◌ small deadlines look) (table_rules ◌then◌ large deadlines look)
  unfolding table_rules body_rules first_of
  stays-table deadlines look =
      stays_then IsCount _ (stays-header (part Field.header look))
      (stays-first IsCount (look.number (Field.header HeaderField.count)) _ _
      (λ u. stays-transaction deadlines _ _ (part (Field.head u) look) (λ j. part (Field.task u j) look)))

pub raised-before : Raises limits_before limits
raised-before = record { transactions = lit≤ tt; modes = refl; tasks = lit≤ tt; in_all = lit≤ tt }

-- a count that fits its field is never too great
pub count_fits : (n : ℕ) → n < 2 ^ transactions_width → is_between 1 transactions_most n ≡ leb 1 n
count_fits n h = rw (le-leb n transactions_most (omega arith)) (and-true (leb 1 n))
  where
    and-true : (t : Bool) → (t && true) ≡ t
    and-true true = refl
    and-true false = refl
