-- What an accepted table keeps: document 01's bounds on a table, and the range of every field.
use Rattle.std.specs.Prelude.{◌≡◌, List, ℕ, ◌+◌, ◌≤◌, ◌<◌, ◌^◌, ◌%◌, length, get_or}
use Rattle.std.proofs.Common.{arith, lit<}
use Rattle.table.specs.Sum.{greatest}
use Rattle.table.specs.Table.{Task, Transaction, Table, transactions, transaction, no_task}
use Rattle.table.specs.Limits.{
  frame_most,
  transactions_most,
  modes_most,
  tasks_most,
  tasks_in_all,
  edition_known,
  offset_width,
  jitter_width,
  blocking_width,
  deadline_width,
  priority_width,
  time_width,
}
use Rattle.table.specs.Number.{in_all}
use Rattle.table.specs.Sample.{plain, lone}

-- a mode in which the times of a task are not 0
pub record RunsSometime (times : List ℕ) : Type 0 where
  pub mode : ℕ
  pub within : mode < length times
  pub some : 0 < get_or times mode 0

-- a task of a transaction with that many modes
pub record KeptTask (modes : ℕ) (t : Task) : Type 0 where
  pub offset : t.offset < 2 ^ offset_width
  pub jitter : t.jitter < 2 ^ jitter_width
  pub blocking : t.blocking < 2 ^ blocking_width
  pub deadline : t.deadline < 2 ^ deadline_width
  pub due : 1 ≤ t.deadline
  pub priority : t.priority < 2 ^ priority_width
  pub times : length t.times ≡ modes
  pub time : (m : ℕ) → m < modes → get_or t.times m 0 < 2 ^ time_width
  pub runs : RunsSometime t.times
  pub keepable : t.offset + greatest modes (λ m. get_or t.times m 0) ≤ t.deadline

-- a transaction of a table with that major frame
pub record KeptTransaction (frame : ℕ) (x : Transaction) : Type 0 where
  pub period : 1 ≤ x.period
  pub divides : frame % x.period ≡ 0
  pub some_mode : 1 ≤ x.modes
  pub few_modes : x.modes ≤ modes_most
  pub some_task : 1 ≤ length x.tasks
  pub few_tasks : length x.tasks ≤ tasks_most
  pub each : (j : ℕ) → j < length x.tasks → KeptTask x.modes (get_or x.tasks j no_task)

pub record Kept (tab : Table) : Type 0 where
  pub edition : tab.edition ≡ edition_known
  pub some_frame : 1 ≤ tab.frame
  pub frame : tab.frame ≤ frame_most
  pub some_transaction : 1 ≤ transactions tab
  pub few_transactions : transactions tab ≤ transactions_most
  pub few_tasks : in_all tab ≤ tasks_in_all
  pub each : (u : ℕ) → u < transactions tab → KeptTransaction tab.frame (transaction tab u)

-- a deadline 0 is not kept
pub late-not-kept : ¬ (Kept (lone 10 (plain 0 3 5 0)))
unfolding transactions transaction
late-not-kept k =
    let due : 1 ≤ 0 = ((k.each 0 (lit< tt)).each 0 (lit< tt)).due in
    omega arith

-- nor is one that is a tick short
short-not-kept : ¬ (Kept (lone 10 (plain 4 3 5 6)))
unfolding transactions transaction greatest
short-not-kept k =
    let keepable : 7 ≤ 6 = ((k.each 0 (lit< tt)).each 0 (lit< tt)).keepable in
    omega arith
