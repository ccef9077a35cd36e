-- Two looks that agree in the fields that a table has are told the same by the rules: under any limits, for any deadlines let in and however
-- findings are joined, only those fields matter, and the place of a task's first time.
use mathlib.Core.Path.{◌≡◌, refl, ap₂}
use Prim.Native.Nat.{ℕ, zero, suc, ◌<◌}
use native.Mathlib.Omega.{arith}
use Rattle.refusals.specs.Answer.{Answer, found_of}
use Rattle.table.specs.Sum.{sum}
use Rattle.table.specs.Limits.{Limits}
use Rattle.table.specs.Table.{Table, IsTask, transactions, modes, tasks}
use Rattle.table.specs.Fields.{HeaderField, HeadField, TaskField, Field, IsField}
use Rattle.table.specs.Rules.{Look, part, Deadlines, task_rules, transaction_rules, body_rules, table_rules}
use Rattle.table.proofs.Sum.{sum-ext, greatest-ext}
use Rattle.table.proofs.Accepted.{Reads, count-read, modes-read, tasks-read}

-- the first time's place is asked for also where a transaction has no modes
pub record Alike (tab : Table) (one two : Look Field) : Type 0 where
  pub finding : (f : Field) → IsField tab f → one.finding f ≡ two.finding f
  pub place : (f : Field) → IsField tab f → one.place f ≡ two.place f
  pub number : (f : Field) → IsField tab f → one.number f ≡ two.number f
  pub first : (u j : ℕ) → IsTask tab u j → one.place (Field.task u j (TaskField.time 0)) ≡ two.place (Field.task u j (TaskField.time 0))

found-same :
    (join : Answer → Answer → Answer) (n : ℕ) {f g : ℕ → Answer} → ((k : ℕ) → k < n → f k ≡ g k) → found_of join n f ≡ found_of join n g
unfolding found_of
found-same join zero each = refl
found-same join (suc n) each = ap₂ join (found-same join n (λ k h. each k (omega arith))) (each n (omega arith))

module _ (join : Answer → Answer → Answer) (limits : Limits) (deadlines : Deadlines) {tab : Table} {one two : Look Field} (reads : Reads one tab) (alike : Alike tab one two) where
  same-header : part Field.header one ≡ part Field.header two
  same-header =
      λ i.
      record {
        finding = λ f. alike.finding (Field.header f) tt i;
        place = λ f. alike.place (Field.header f) tt i;
        number = λ f. alike.number (Field.header f) tt i;
      }

  same_head : (u : ℕ) → u < transactions tab → part (Field.head u) one ≡ part (Field.head u) two
  same_head u h =
      λ i.
      record {
        finding = λ f. alike.finding (Field.head u f) h i;
        place = λ f. alike.place (Field.head u f) h i;
        number = λ f. alike.number (Field.head u f) h i;
      }

  same-task :
      (u j : ℕ) → IsTask tab u j → task_rules join deadlines (modes tab u) (part (Field.task u j) one) ≡ task_rules join deadlines (modes tab u) (part (Field.task u j) two)
  unfolding task_rules
  same-task u j is =
      let ends = found-same join (modes tab u) (λ m below. alike.finding (Field.task u j (TaskField.time m)) (is, below)) in
      let times = sum-ext (modes tab u) (λ m below. alike.number (Field.task u j (TaskField.time m)) (is, below)) in
      let longest = greatest-ext (modes tab u) (λ m below. alike.number (Field.task u j (TaskField.time m)) (is, below)) in
      rw (
        alike.finding (Field.task u j TaskField.offset) (is, tt),
        alike.finding (Field.task u j TaskField.jitter) (is, tt),
        alike.finding (Field.task u j TaskField.blocking) (is, tt),
        alike.finding (Field.task u j TaskField.deadline) (is, tt),
        alike.number (Field.task u j TaskField.deadline) (is, tt),
        alike.place (Field.task u j TaskField.deadline) (is, tt),
        alike.finding (Field.task u j TaskField.priority) (is, tt),
        ends,
        times,
        alike.first u j is,
        alike.number (Field.task u j TaskField.offset) (is, tt),
        longest,
      )

  abbrev found : Look Field → (u : ℕ) → Answer
  found look u =
      transaction_rules join limits deadlines (look.number (Field.header HeaderField.frame)) (sum u (λ v. look.number (Field.head v HeadField.tasks)))
      (part (Field.head u) look) (λ j. part (Field.task u j) look)

  same-transaction : (u : ℕ) → u < transactions tab → found one u ≡ found two u
  unfolding transaction_rules
  same-transaction u h =
      let tasks-alike = alike.number (Field.head u HeadField.tasks) h in
      let modes-alike = alike.number (Field.head u HeadField.modes) h in
      let before = sum-ext u (λ v below. alike.number (Field.head v HeadField.tasks) (omega arith)) in
      let each : found_of join (tasks tab u) (λ j. task_rules join deadlines (modes tab u) (part (Field.task u j) one)) ≡ found_of join (tasks tab u) (λ j. task_rules join deadlines (modes tab u) (part (Field.task u j) two)) =
      found-same join (tasks tab u) (λ j below. same-task u j (record { owner = h; place = below })) in
      rw (
        same_head u h,
        alike.number (Field.header HeaderField.frame) tt,
        before,
        ← tasks-alike,
        ← modes-alike,
        tasks-read reads h,
        modes-read reads h,
        each,
      )

  pub alike-rules : table_rules join limits deadlines one ≡ table_rules join limits deadlines two
  unfolding table_rules body_rules
  alike-rules =
      let count-alike = alike.number (Field.header HeaderField.count) tt in
      let each = found-same join (transactions tab) {f = found one} {g = found two} same-transaction in
      rw (same-header, ← count-alike, count-read reads, each)
