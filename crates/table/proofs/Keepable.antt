-- A table's rules with any deadline let in are document 01's: what they find is what is found where deadlines must be such as can be
-- kept, unless that is 14; and there is no finding with the rule exactly where there is none without it and every task keeps it.
use mathlib.Core.Path.{◌≡◌, refl}
use mathlib.Core.Bool.{Bool, true, false}
use Prim.Native.Nat.{ℕ, ◌+◌, ◌≤◌, ◌<◌}
use native.Mathlib.Omega.{arith}
use lib.Dec.{leb}
use borrow.Author.Tests.{leb-false}
use Rattle.refusals.specs.declared.Refusal.TheVariants.{DeadlineZero, NeverRuns, DeadlineShort}
use Rattle.refusals.specs.Answer.{accepted, ◌then◌, found_of, first_of, checked}
use Rattle.refusals.proofs.Findings.{then-accepted, then-joins, Stays, stays-checked, stays_then, stays-first}
use Rattle.table.specs.Sum.{sum, greatest}
use Rattle.table.specs.Limits.{Limits}
use Rattle.table.specs.Table.{Table, IsTask, transactions}
use Rattle.table.specs.Fields.{HeaderField, HeadField, TaskField, Field}
use Rattle.table.specs.Rules.{Look, part, rule, task_rules, transaction_rules, body_rules, table_rules}
use Rattle.table.specs.Rules.Deadlines.{any, keepable}
use Rattle.table.specs.Keepable.{greatest_time, IsKeepable, EachKeepable, IsShort}
use Rattle.table.proofs.Rules.{SoundTable, sound-table, clear-table}
use Rattle.table.proofs.Accepted.{Reads, count-read, tasks-read, modes-read, offset_read, deadline-read, greatest-read}

-- with any deadline let in a task's rules are document 01's
pub left_out :
    (many : ℕ) (look : Look TaskField)
    → task_rules ◌then◌ any many look
    ≡ (look.finding TaskField.offset
    then look.finding TaskField.jitter
    then look.finding TaskField.blocking
    then rule ◌then◌ look TaskField.deadline (leb 1 (look.number TaskField.deadline)) DeadlineZero
    then look.finding TaskField.priority
    then found_of ◌then◌ many (λ m. look.finding (TaskField.time m))
    then checked (leb 1 (sum many (λ m. look.number (TaskField.time m)))) NeverRuns (look.place (TaskField.time 0)))
unfolding task_rules
left_out many look = then-accepted _

-- ---- what is found

stays-left-out : (t : Bool) (at : ℕ) → Stays IsShort (checked t DeadlineShort at) accepted
unfolding checked
stays-left-out t at = stays-checked IsShort t {t = true} DeadlineShort at refl (λ _. refl)

module _ (limits : Limits) where
  stays-task : (many : ℕ) (look : Look TaskField) → Stays IsShort (task_rules ◌then◌ keepable many look) (task_rules ◌then◌ any many look)
  unfolding task_rules
  stays-task many look = stays_then IsShort _ (λ _. refl) (stays-left-out _ _)

  stays-transaction :
      (major before : ℕ) (look : Look HeadField) (each : ℕ → Look TaskField)
      → Stays IsShort (transaction_rules ◌then◌ limits keepable major before look each) (transaction_rules ◌then◌ limits any major before look each)
  unfolding transaction_rules first_of
  stays-transaction major before look each =
      stays_then IsShort _ (λ _. refl) (stays-first IsShort (look.number HeadField.tasks) _ _ (λ j. stays-task (look.number HeadField.modes) (each j)))

  pub stays-short : (look : Look Field) → Stays IsShort (table_rules ◌then◌ limits keepable look) (table_rules ◌then◌ limits any look)
  unfolding table_rules body_rules first_of
  stays-short look =
      stays_then IsShort _ (λ _. refl)
      (stays-first IsShort (look.number (Field.header HeaderField.count)) _ _
      (λ u. stays-transaction _ _ (part (Field.head u) look) (λ j. part (Field.task u j) look)))

-- ---- no finding

module _ {look : Look Field} {tab : Table} (reads : Reads look tab) where
  -- what the rule asks of the look, it asks of the table

  abbrev needs : (u j : ℕ) → ℕ
  needs u j =
      look.number (Field.task u j TaskField.offset) + greatest (look.number (Field.head u HeadField.modes)) (λ m. look.number (Field.task u j (TaskField.time m)))

  abbrev Asks : (u j : ℕ) → Type 0
  Asks u j = needs u j ≤ look.number (Field.task u j TaskField.deadline)

  asks-table : {u j : ℕ} → IsTask tab u j → Asks u j → IsKeepable tab u j
  unfolding greatest_time
  asks-table is h = rw (modes-read reads is.owner, greatest-read reads is, offset_read reads is, deadline-read reads is) at h

  table-asks : {u j : ℕ} → IsTask tab u j → IsKeepable tab u j → Asks u j
  unfolding greatest_time
  table-asks is h = rw (modes-read reads is.owner, greatest-read reads is, offset_read reads is, deadline-read reads is) h

  -- where its test fails, the task does not keep it
  pub not-keepable : {u j : ℕ} → IsTask tab u j → leb (needs u j) (look.number (Field.task u j TaskField.deadline)) ≡ false → ¬ IsKeepable tab u j
  not-keepable {u} {j} is failed kept = absurd (omega (arith, leb-false (needs u j) _ failed, table-asks is kept))

  has-task : {u j : ℕ} → u < look.number (Field.header HeaderField.count) → j < look.number (Field.head u HeadField.tasks) → IsTask tab u j
  has-task below within =
      let owner : _ < transactions tab = rw (count-read reads) at below in
      record { owner = owner; place = rw (tasks-read reads owner) at within }

  module _ (limits : Limits) where
    sound-with : SoundTable limits any look → EachKeepable tab → SoundTable limits keepable look
    sound-with s kept =
        record {
          header = s.header;
          transaction =
              λ u below.
              record {
                head = (s.transaction u below).head;
                task =
                    λ j within.
                    let own = (s.transaction u below).task j within in
                    let is : IsTask tab u j = has-task below within in
                    record { there = own.there; due = own.due; runs = own.runs; keepable = table-asks is (kept.each u j is) };
              };
        }

    -- and so with the findings

    pub keepable-clear : table_rules ◌then◌ limits any look ≡ accepted → EachKeepable tab → table_rules ◌then◌ limits keepable look ≡ accepted
    keepable-clear clear kept = clear-table limits keepable then-joins look (sound-with (sound-table limits any then-joins look clear) kept)

    pub clear-keepable : table_rules ◌then◌ limits keepable look ≡ accepted → EachKeepable tab
    clear-keepable clear =
        let s = sound-table limits keepable then-joins look clear in
        record {
          each =
              λ u j is.
              asks-table is ((s.transaction u (rw (count-read reads) is.owner)).task j (rw (tasks-read reads is.owner) is.place)).keepable;
        }
