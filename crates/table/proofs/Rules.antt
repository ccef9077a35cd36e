-- No finding by a table's rules, part by part: then every field is there and each check held, and the other way round. It
-- holds under any limits, for any deadlines that are let in and of any way to join findings. (The computed cases are brought in so that they are checked first.)
use mathlib.Core.Path.{◌≡◌, refl}
use mathlib.Core.Bool.{Bool, true}
use Prim.Native.Nat.{ℕ, ◌+◌, ◌%◌, ◌≤◌, ◌<◌}
use lib.Dec.{leb}
use borrow.Author.Tests.{leb-true, eqb-true, le-leb, eq-eqb}
use Rattle.refusals.specs.declared.Refusal.{Refusal}
use Rattle.refusals.specs.Answer.{Answer, accepted, checked}
use Rattle.refusals.proofs.Findings.{Joins, none_of, none-in-all, held, holds, both_first, both-second, both_hold}
use Rattle.table.specs.Sum.{sum, greatest}
use Rattle.table.specs.Limits.{Limits, edition_known}
use Rattle.table.specs.Fields.{HeaderField, HeadField, TaskField, Field, IsTaskField}
use Rattle.table.specs.RuleCases
use Rattle.table.specs.Rules.Deadlines.{any, keepable}
use Rattle.table.specs.Rules.{Look, part, is_between, Deadlines, asked, rule, header_rules, head_rules, task_rules, transaction_rules, body_rules, table_rules}

-- ---- what holds where there is no finding

pub record SoundHeader (limits : Limits) (look : Look HeaderField) : Type 0 where
  pub there : (f : HeaderField) → look.finding f ≡ accepted
  pub edition : look.number HeaderField.edition ≡ edition_known
  pub frame : 1 ≤ look.number HeaderField.frame
  pub some : 1 ≤ look.number HeaderField.count
  pub few : look.number HeaderField.count ≤ limits.transactions

pub record SoundHead (limits : Limits) (major before : ℕ) (look : Look HeadField) : Type 0 where
  pub there : (f : HeadField) → look.finding f ≡ accepted
  pub period : 1 ≤ look.number HeadField.period
  pub divides : major % look.number HeadField.period ≡ 0
  pub some_mode : 1 ≤ look.number HeadField.modes
  pub few_modes : look.number HeadField.modes ≤ limits.modes
  pub some_task : 1 ≤ look.number HeadField.tasks
  pub few_tasks : look.number HeadField.tasks ≤ limits.tasks
  pub in_all : before + look.number HeadField.tasks ≤ limits.in_all

-- where deadlines must be such as can be kept, this one is
abbrev pub Keepable : Deadlines → (offset time deadline : ℕ) → Type 0
Keepable any offset time deadline = Unit
Keepable keepable offset time deadline = offset + time ≤ deadline

pub record SoundTask (deadlines : Deadlines) (many : ℕ) (look : Look TaskField) : Type 0 where
  pub there : (f : TaskField) → IsTaskField many f → look.finding f ≡ accepted
  pub due : 1 ≤ look.number TaskField.deadline
  pub runs : 1 ≤ sum many (λ m. look.number (TaskField.time m))
  pub keepable : Keepable deadlines (look.number TaskField.offset) (greatest many (λ m. look.number (TaskField.time m))) (look.number TaskField.deadline)

pub record SoundTransaction (limits : Limits) (deadlines : Deadlines) (major before : ℕ) (look : Look HeadField) (each : ℕ → Look TaskField) : Type 0 where
  pub head : SoundHead limits major before look
  pub task : (j : ℕ) → j < look.number HeadField.tasks → SoundTask deadlines (look.number HeadField.modes) (each j)

abbrev pub TransactionAt : Limits → Deadlines → Look Field → (u : ℕ) → Type 0
TransactionAt limits deadlines look u =
    SoundTransaction limits deadlines (look.number (Field.header HeaderField.frame)) (sum u (λ v. look.number (Field.head v HeadField.tasks))) (part (Field.head u) look)
    (λ j. part (Field.task u j) look)

pub record SoundTable (limits : Limits) (deadlines : Deadlines) (look : Look Field) : Type 0 where
  pub header : SoundHeader limits (part Field.header look)
  pub transaction : (u : ℕ) → u < look.number (Field.header HeaderField.count) → TransactionAt limits deadlines look u

module _ {join : Answer → Answer → Answer} (joins : Joins join) {F : Type 0} (look : Look F) (f : F) (t : Bool) (r : Refusal) where
  rule-there : rule join look f t r ≡ accepted → look.finding f ≡ accepted
  rule-there h = joins.first _ _ h

  rule-holds : rule join look f t r ≡ accepted → t ≡ true
  rule-holds h = held _ _ _ (joins.second _ _ h)

  rule-kept : look.finding f ≡ accepted → t ≡ true → rule join look f t r ≡ accepted
  rule-kept there h = joins.none there (holds r _ h)

-- a rule that may not be asked for
asked-keepable : (deadlines : Deadlines) (o c d : ℕ) (r : Refusal) (at : ℕ) → asked deadlines (checked (leb (o + c) d) r at) ≡ accepted → Keepable deadlines o c d
asked-keepable any o c d r at h = tt
asked-keepable keepable o c d r at h = leb-true (o + c) d (held _ _ _ h)

keepable-asked : (deadlines : Deadlines) (o c d : ℕ) (r : Refusal) (at : ℕ) → Keepable deadlines o c d → asked deadlines (checked (leb (o + c) d) r at) ≡ accepted
keepable-asked any o c d r at h = refl
keepable-asked keepable o c d r at h = holds r at (le-leb (o + c) d h)

module _ (limits : Limits) {join : Answer → Answer → Answer} (joins : Joins join) where
  pub sound-header : (look : Look HeaderField) → header_rules join limits look ≡ accepted → SoundHeader limits look
  unfolding header_rules
  sound-header look h =
      let h₁ = joins.first _ _ h in
      let at-edition = joins.first _ _ h₁ in
      let at-frame = joins.second _ _ h₁ in
      let at_count = joins.second _ _ h in
      let count = rule-holds joins look HeaderField.count _ _ at_count in
      record {
        there =
            λ f.
            elim f as (λ f. look.finding f ≡ accepted) [
              | HeaderField.edition ↦ rule-there joins look HeaderField.edition _ _ at-edition
              | HeaderField.frame ↦ rule-there joins look HeaderField.frame _ _ at-frame
              | HeaderField.count ↦ rule-there joins look HeaderField.count _ _ at_count
            ];
        edition = eqb-true _ _ (rule-holds joins look HeaderField.edition _ _ at-edition);
        frame = leb-true _ _ (rule-holds joins look HeaderField.frame _ _ at-frame);
        some = leb-true _ _ (both_first (leb 1 (look.number HeaderField.count)) _ count);
        few = leb-true _ _ (both-second (leb 1 (look.number HeaderField.count)) _ count);
      }

  pub clear-header : (look : Look HeaderField) → SoundHeader limits look → header_rules join limits look ≡ accepted
  unfolding header_rules
  clear-header look s =
      joins.none
      (joins.none
      (rule-kept joins look HeaderField.edition _ _ (s.there HeaderField.edition) (eq-eqb _ _ s.edition))
      (rule-kept joins look HeaderField.frame _ _ (s.there HeaderField.frame) (le-leb _ _ s.frame)))
      (rule-kept joins look HeaderField.count _ _ (s.there HeaderField.count) (both_hold (le-leb _ _ s.some) (le-leb _ _ s.few)))

  module _ (major before : ℕ) (look : Look HeadField) where
    pub sound-head : head_rules join limits major before look ≡ accepted → SoundHead limits major before look
    unfolding head_rules
    sound-head h =
        let h₁ = joins.first _ _ h in
        let at-period = joins.first _ _ h₁ in
        let at-modes = joins.second _ _ h₁ in
        let at-tasks = joins.second _ _ h in
        let period = rule-holds joins look HeadField.period _ _ at-period in
        let modes = rule-holds joins look HeadField.modes _ _ at-modes in
        let tasks = rule-holds joins look HeadField.tasks _ _ at-tasks in
        let count = both_first (is_between 1 limits.tasks (look.number HeadField.tasks)) _ tasks in
        record {
          there =
              λ f.
              elim f as (λ f. look.finding f ≡ accepted) [
                | HeadField.period ↦ rule-there joins look HeadField.period _ _ at-period
                | HeadField.modes ↦ rule-there joins look HeadField.modes _ _ at-modes
                | HeadField.tasks ↦ rule-there joins look HeadField.tasks _ _ at-tasks
              ];
          period = leb-true _ _ (both_first (leb 1 (look.number HeadField.period)) _ period);
          divides = eqb-true _ _ (both-second (leb 1 (look.number HeadField.period)) _ period);
          some_mode = leb-true _ _ (both_first (leb 1 (look.number HeadField.modes)) _ modes);
          few_modes = leb-true _ _ (both-second (leb 1 (look.number HeadField.modes)) _ modes);
          some_task = leb-true _ _ (both_first (leb 1 (look.number HeadField.tasks)) _ count);
          few_tasks = leb-true _ _ (both-second (leb 1 (look.number HeadField.tasks)) _ count);
          in_all = leb-true _ _ (both-second (is_between 1 limits.tasks (look.number HeadField.tasks)) _ tasks);
        }

    pub clear-head : SoundHead limits major before look → head_rules join limits major before look ≡ accepted
    unfolding head_rules
    clear-head s =
        joins.none
        (joins.none
        (rule-kept joins look HeadField.period _ _ (s.there HeadField.period) (both_hold (le-leb _ _ s.period) (eq-eqb _ _ s.divides)))
        (rule-kept joins look HeadField.modes _ _ (s.there HeadField.modes) (both_hold (le-leb _ _ s.some_mode) (le-leb _ _ s.few_modes))))
        (rule-kept joins look HeadField.tasks _ _ (s.there HeadField.tasks)
        (both_hold (both_hold (le-leb _ _ s.some_task) (le-leb _ _ s.few_tasks)) (le-leb _ _ s.in_all)))

module _ (deadlines : Deadlines) {join : Answer → Answer → Answer} (joins : Joins join) (many : ℕ) (look : Look TaskField) where
  pub sound-task : task_rules join deadlines many look ≡ accepted → SoundTask deadlines many look
  unfolding task_rules
  sound-task h =
      let h₁ = joins.first _ _ h in
      let h₂ = joins.first _ _ h₁ in
      let h₃ = joins.first _ _ h₂ in
      let h₄ = joins.first _ _ h₃ in
      let h₅ = joins.first _ _ h₄ in
      let h₆ = joins.first _ _ h₅ in
      let at-deadline = joins.second _ _ h₄ in
      record {
        there =
            λ f.
            elim f as (λ f. IsTaskField many f → look.finding f ≡ accepted) [
              | TaskField.offset ↦ λ within. joins.first _ _ h₆
              | TaskField.jitter ↦ λ within. joins.second _ _ h₆
              | TaskField.blocking ↦ λ within. joins.second _ _ h₅
              | TaskField.deadline ↦ λ within. rule-there joins look TaskField.deadline _ _ at-deadline
              | TaskField.priority ↦ λ within. joins.second _ _ h₃
              | TaskField.time m ↦ λ within. none_of joins many _ (joins.second _ _ h₂) m within
            ];
        due = leb-true _ _ (rule-holds joins look TaskField.deadline _ _ at-deadline);
        runs = leb-true _ _ (held _ _ _ (joins.second _ _ h₁));
        keepable = asked-keepable deadlines _ _ _ _ _ (joins.second _ _ h);
      }

  pub clear-task : SoundTask deadlines many look → task_rules join deadlines many look ≡ accepted
  unfolding task_rules
  clear-task s =
      joins.none
      (joins.none
      (joins.none
      (joins.none
      (joins.none
      (joins.none
      (joins.none (s.there TaskField.offset tt) (s.there TaskField.jitter tt))
      (s.there TaskField.blocking tt))
      (rule-kept joins look TaskField.deadline _ _ (s.there TaskField.deadline tt) (le-leb _ _ s.due)))
      (s.there TaskField.priority tt))
      (none-in-all joins many _ (λ m below. s.there (TaskField.time m) below)))
      (holds _ _ (le-leb _ _ s.runs)))
      (keepable-asked deadlines _ _ _ _ _ s.keepable)

module _ (limits : Limits) (deadlines : Deadlines) {join : Answer → Answer → Answer} (joins : Joins join) where
  module _ (major before : ℕ) (look : Look HeadField) (each : ℕ → Look TaskField) where
    pub sound-transaction :
        transaction_rules join limits deadlines major before look each ≡ accepted → SoundTransaction limits deadlines major before look each
    unfolding transaction_rules
    sound-transaction h =
        record {
          head = sound-head limits joins major before look (joins.first _ _ h);
          task = λ j below. sound-task deadlines joins (look.number HeadField.modes) (each j) (none_of joins (look.number HeadField.tasks) _ (joins.second _ _ h) j below);
        }

    pub clear-transaction :
        SoundTransaction limits deadlines major before look each → transaction_rules join limits deadlines major before look each ≡ accepted
    unfolding transaction_rules
    clear-transaction s =
        joins.none (clear-head limits joins major before look s.head)
        (none-in-all joins (look.number HeadField.tasks) _ (λ j below. clear-task deadlines joins (look.number HeadField.modes) (each j) (s.task j below)))

  pub sound-table : (look : Look Field) → table_rules join limits deadlines look ≡ accepted → SoundTable limits deadlines look
  unfolding table_rules body_rules
  sound-table look h =
      record {
        header = sound-header limits joins (part Field.header look) (joins.first _ _ h);
        transaction =
            λ u below.
            sound-transaction _ _ (part (Field.head u) look) (λ j. part (Field.task u j) look)
            (none_of joins (look.number (Field.header HeaderField.count)) _ (joins.second _ _ h) u below);
      }

  pub clear-table : (look : Look Field) → SoundTable limits deadlines look → table_rules join limits deadlines look ≡ accepted
  unfolding table_rules body_rules
  clear-table look s =
      joins.none (clear-header limits joins (part Field.header look) s.header)
      (none-in-all joins (look.number (Field.header HeaderField.count)) _
      (λ u below. clear-transaction _ _ (part (Field.head u) look) (λ j. part (Field.task u j) look) (s.transaction u below)))
