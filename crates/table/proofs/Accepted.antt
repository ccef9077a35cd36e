-- What an accepted table keeps: no finding by the rules, every number fitting its field and a time for each mode give `Kept`,
-- and `Kept` gives all three. Only the fields that a table has can matter.
use mathlib.Core.Path.{◌≡◌, sym, ◌∙◌}
use Prim.Native.Nat.{ℕ, ◌+◌, ◌-◌, ◌≤◌, ◌<◌, ◌^◌}
use native.Mathlib.Nat.{le_refl, le_trans}
use native.Mathlib.Omega.{arith}
use Rattle.refusals.specs.Answer.{Answer, accepted}
use Rattle.refusals.proofs.Findings.{Joins}
use Rattle.table.specs.Sum.{sum, greatest}
use Rattle.table.specs.Limits.{limits, tasks_in_all}
use Rattle.table.specs.Table.{Table, IsTask, transactions, transaction, period, modes, tasks, task, offset, jitter, blocking, deadline, priority, time}
use Rattle.table.specs.Number.{before, in_all}
use Rattle.table.specs.Fields.{HeaderField, HeadField, TaskField, Field, width, number_in, IsField, Fits, Timed}
use Rattle.table.specs.Rules.{Look, part, table_rules}
use Rattle.table.specs.Rules.Deadlines.{keepable}
use Rattle.table.specs.Kept.{Kept, KeptTransaction, KeptTask}
use Rattle.table.proofs.Sum.{sum-ext, sum-next, sum-term, some-term, greatest-ext}
use Rattle.table.proofs.Number.{before-suc, before-grow}
use Rattle.table.proofs.Ranges.{period-lt}
use Rattle.table.proofs.Rules.{SoundTask, SoundTable, TransactionAt, sound-table, clear-table}

-- a look that reads a table's numbers in the fields that the table has
pub record Reads (look : Look Field) (tab : Table) : Type 0 where
  pub number : (f : Field) → IsField tab f → look.number f ≡ number_in tab f

module _ {look : Look Field} {tab : Table} (reads : Reads look tab) where
  -- the fields by name

  edition-read : look.number (Field.header HeaderField.edition) ≡ tab.edition
  unfolding number_in
  edition-read = reads.number (Field.header HeaderField.edition) tt

  frame-read : look.number (Field.header HeaderField.frame) ≡ tab.frame
  unfolding number_in
  frame-read = reads.number (Field.header HeaderField.frame) tt

  pub count-read : look.number (Field.header HeaderField.count) ≡ transactions tab
  unfolding number_in
  count-read = reads.number (Field.header HeaderField.count) tt

  module _ {u : ℕ} (h : u < transactions tab) where
    period-read : look.number (Field.head u HeadField.period) ≡ period tab u
    unfolding number_in
    period-read = reads.number (Field.head u HeadField.period) h

    pub modes-read : look.number (Field.head u HeadField.modes) ≡ modes tab u
    unfolding number_in
    modes-read = reads.number (Field.head u HeadField.modes) h

    pub tasks-read : look.number (Field.head u HeadField.tasks) ≡ tasks tab u
    unfolding number_in
    tasks-read = reads.number (Field.head u HeadField.tasks) h

  before-read : {u : ℕ} → u ≤ transactions tab → sum u (λ v. look.number (Field.head v HeadField.tasks)) ≡ before tab u
  unfolding before
  before-read {u} h = sum-ext u (λ v below. tasks-read (omega arith))

  module _ {u j : ℕ} (is : IsTask tab u j) where
    pub offset_read : look.number (Field.task u j TaskField.offset) ≡ offset tab u j
    unfolding number_in
    offset_read = reads.number (Field.task u j TaskField.offset) (is, tt)

    pub deadline-read : look.number (Field.task u j TaskField.deadline) ≡ deadline tab u j
    unfolding number_in
    deadline-read = reads.number (Field.task u j TaskField.deadline) (is, tt)

    times-read : sum (modes tab u) (λ m. look.number (Field.task u j (TaskField.time m))) ≡ sum (modes tab u) (λ m. time tab u m j)
    unfolding number_in
    times-read = sum-ext (modes tab u) (λ m below. reads.number (Field.task u j (TaskField.time m)) (is, below))

    pub greatest-read : greatest (modes tab u) (λ m. look.number (Field.task u j (TaskField.time m))) ≡ greatest (modes tab u) (λ m. time tab u m j)
    unfolding number_in
    greatest-read = greatest-ext (modes tab u) (λ m below. reads.number (Field.task u j (TaskField.time m)) (is, below))

  -- ---- the rules, Fits and Timed give Kept

  module _ (fits : Fits tab) (timed : Timed tab) where
    kept-task :
        {u j : ℕ} → IsTask tab u j → SoundTask keepable (look.number (Field.head u HeadField.modes)) (part (Field.task u j) look) → KeptTask (modes tab u) (task tab u j)
    unfolding number_in offset jitter blocking deadline priority time
    kept-task {u} {j} is s =
        let some = some-term (modes tab u) (λ m. time tab u m j) (rw (modes-read is.owner, times-read is) at s.runs) in
        record {
          offset = fits.below (Field.task u j TaskField.offset) (is, tt);
          jitter = fits.below (Field.task u j TaskField.jitter) (is, tt);
          blocking = fits.below (Field.task u j TaskField.blocking) (is, tt);
          deadline = fits.below (Field.task u j TaskField.deadline) (is, tt);
          due = rw (deadline-read is) at s.due;
          priority = fits.below (Field.task u j TaskField.priority) (is, tt);
          times = timed.times u j is;
          time = λ m below. fits.below (Field.task u j (TaskField.time m)) (is, below);
          runs = record { mode = some.term; within = rw (timed.times u j is) some.within; some = some.some };
          keepable = rw (modes-read is.owner, greatest-read is, offset_read is, deadline-read is) at s.keepable;
        }

    kept-transaction : {u : ℕ} → u < transactions tab → TransactionAt limits keepable look u → KeptTransaction tab.frame (transaction tab u)
    unfolding period modes tasks task
    kept-transaction {u} h s =
        record {
          period = rw (period-read h) at s.head.period;
          divides = rw (frame-read, period-read h) at s.head.divides;
          some_mode = rw (modes-read h) at s.head.some_mode;
          few_modes = rw (modes-read h) at s.head.few_modes;
          some_task = rw (tasks-read h) at s.head.some_task;
          few_tasks = rw (tasks-read h) at s.head.few_tasks;
          each = λ j below. kept-task (record { owner = h; place = below }) (s.task j (rw (tasks-read h) below));
        }

    -- the last transaction's check of the sum so far is one of the sum in all
    few-tasks : SoundTable limits keepable look → in_all tab ≤ tasks_in_all
    unfolding in_all
    few-tasks s =
        let last : ℕ = transactions tab - 1 in
        let some : last + 1 ≡ transactions tab = omega (arith, count-read, s.header.some) in
        let whole : sum (last + 1) (λ v. look.number (Field.head v HeadField.tasks)) ≡ before tab (transactions tab) =
        rw some (before-read (le_refl (transactions tab))) in
        omega (arith, whole, sum-next last (λ v. look.number (Field.head v HeadField.tasks)), (s.transaction last (omega (arith, count-read))).head.in_all)

    pub rules-keep : {join : Answer → Answer → Answer} → Joins join → table_rules join limits keepable look ≡ accepted → Kept tab
    unfolding number_in
    rules-keep joins h =
        let s = sound-table limits keepable joins look h in
        record {
          edition = sym edition-read ∙ s.header.edition;
          some_frame = rw frame-read at s.header.frame;
          frame = omega (arith, fits.below (Field.header HeaderField.frame) tt);
          some_transaction = rw count-read at s.header.some;
          few_transactions = rw count-read at s.header.few;
          few_tasks = few-tasks s;
          each = λ u below. kept-transaction below (s.transaction u (rw count-read below));
        }

  -- ---- Kept gives no finding by the rules, where no field of the table has one of its own

  module _ (kept : Kept tab) (there : (f : Field) → IsField tab f → look.finding f ≡ accepted) where
    sound-task : {u j : ℕ} → IsTask tab u j → SoundTask keepable (look.number (Field.head u HeadField.modes)) (part (Field.task u j) look)
    unfolding modes offset deadline time task tasks
    sound-task {u} {j} is =
        let k : KeptTask (modes tab u) (task tab u j) = (kept.each u is.owner).each j is.place in
        rw (modes-read is.owner)
        (record {
          there = λ f has. there (Field.task u j f) (is, has);
          due = rw (deadline-read is) k.due;
          keepable = rw (greatest-read is, offset_read is, deadline-read is) k.keepable;
          runs = rw (times-read is) (le_trans k.runs.some (sum-term (modes tab u) (λ m. time tab u m j) k.runs.mode (rw k.times at k.runs.within)));
        })

    room : {u : ℕ} → u < transactions tab → before tab u + tasks tab u ≤ tasks_in_all
    unfolding in_all
    room {u} h = omega (arith, kept.few_tasks, before-suc tab u, before-grow tab h)

    sound-transaction : {u : ℕ} → u < transactions tab → TransactionAt limits keepable look u
    unfolding period modes tasks task
    sound-transaction {u} h =
        let k : KeptTransaction tab.frame (transaction tab u) = kept.each u h in
        record {
          head =
              record {
                there = λ f. there (Field.head u f) h;
                period = rw (period-read h) k.period;
                divides = rw (frame-read, period-read h) k.divides;
                some_mode = rw (modes-read h) k.some_mode;
                few_modes = rw (modes-read h) k.few_modes;
                some_task = rw (tasks-read h) k.some_task;
                few_tasks = rw (tasks-read h) k.few_tasks;
                in_all = rw (before-read {u = u} (omega arith), tasks-read h) (room h);
              };
          task = λ j below. sound-task (record { owner = h; place = rw (tasks-read h) at below });
        }

    pub kept-rules : {join : Answer → Answer → Answer} → Joins join → table_rules join limits keepable look ≡ accepted
    kept-rules joins =
        clear-table limits keepable joins look
        (record {
          header =
              record {
                there = λ f. there (Field.header f) tt;
                edition = edition-read ∙ kept.edition;
                frame = rw frame-read kept.some_frame;
                some = rw count-read kept.some_transaction;
                few = rw count-read kept.few_transactions;
              };
          transaction = λ u below. sound-transaction (rw count-read at below);
        })

-- ---- Kept gives Fits and Timed

module _ {tab : Table} (kept : Kept tab) where
  number-below : (f : Field) → IsField tab f → number_in tab f < 2 ^ width f
  unfolding number_in tasks task offset jitter blocking deadline priority time modes
  number-below (Field.header HeaderField.edition) has = omega (arith, kept.edition)
  number-below (Field.header HeaderField.frame) has = omega (arith, kept.frame)
  number-below (Field.header HeaderField.count) has = omega (arith, kept.few_transactions)
  number-below (Field.head u HeadField.period) has = period-lt kept has
  number-below (Field.head u HeadField.modes) has = omega (arith, (kept.each u has).few_modes)
  number-below (Field.head u HeadField.tasks) has = omega (arith, (kept.each u has).few_tasks)
  number-below (Field.task u j TaskField.offset) has = ((kept.each u has.0.owner).each j has.0.place).offset
  number-below (Field.task u j TaskField.jitter) has = ((kept.each u has.0.owner).each j has.0.place).jitter
  number-below (Field.task u j TaskField.blocking) has = ((kept.each u has.0.owner).each j has.0.place).blocking
  number-below (Field.task u j TaskField.deadline) has = ((kept.each u has.0.owner).each j has.0.place).deadline
  number-below (Field.task u j TaskField.priority) has = ((kept.each u has.0.owner).each j has.0.place).priority
  number-below (Field.task u j (TaskField.time m)) has = ((kept.each u has.0.owner).each j has.0.place).time m has.1

  pub kept-fits : Fits tab
  kept-fits = record { below = number-below }

  pub kept-timed : Timed tab
  unfolding tasks task modes
  kept-timed = record { times = λ u j is. ((kept.each u is.owner).each j is.place).times }
