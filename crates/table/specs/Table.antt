-- A task table: what an image says, with no word of its bits. Transactions and the tasks of one transaction are
-- numbered from 0 by their place; the accessors below give 0 for what is not there.
use Rattle.std.specs.Prelude.{List, [], ℕ, ◌<◌, length, get_or}

pub record Task : Type 0 where
  pub offset : ℕ  -- O
  pub jitter : ℕ  -- J
  pub blocking : ℕ  -- B
  pub deadline : ℕ  -- D
  pub priority : ℕ  -- P: a greater one is more urgent
  pub times : List ℕ  -- C, one for each mode

pub record Transaction : Type 0 where
  pub period : ℕ  -- T
  pub modes : ℕ
  pub tasks : List Task

pub record Table : Type 0 where
  pub edition : ℕ
  pub frame : ℕ  -- the major frame
  pub transactions : List Transaction

-- what stands where no task, or no transaction, does
abbrev pub no_task : Task
no_task = record { offset = 0; jitter = 0; blocking = 0; deadline = 0; priority = 0; times = [] }

abbrev pub no_transaction : Transaction
no_transaction = record { period = 0; modes = 0; tasks = [] }

-- how many transactions there are
unfoldable pub transactions : Table → ℕ
transactions tab = length tab.transactions

-- transaction u
unfoldable pub transaction : Table → ℕ → Transaction
transaction tab u = get_or tab.transactions u no_transaction

-- T of transaction u
unfoldable pub period : Table → ℕ → ℕ
period tab u = (transaction tab u).period

-- how many modes transaction u has
unfoldable pub modes : Table → ℕ → ℕ
modes tab u = (transaction tab u).modes

-- how many tasks transaction u has
unfoldable pub tasks : Table → ℕ → ℕ
tasks tab u = length (transaction tab u).tasks

-- task j of transaction u
unfoldable pub task : Table → ℕ → ℕ → Task
task tab u j = get_or (transaction tab u).tasks j no_task

unfoldable pub offset : Table → ℕ → ℕ → ℕ
offset tab u j = (task tab u j).offset

unfoldable pub jitter : Table → ℕ → ℕ → ℕ
jitter tab u j = (task tab u j).jitter

unfoldable pub blocking : Table → ℕ → ℕ → ℕ
blocking tab u j = (task tab u j).blocking

unfoldable pub deadline : Table → ℕ → ℕ → ℕ
deadline tab u j = (task tab u j).deadline

unfoldable pub priority : Table → ℕ → ℕ → ℕ
priority tab u j = (task tab u j).priority

-- C of task j of transaction u in mode m
unfoldable pub time : Table → ℕ → ℕ → ℕ → ℕ
time tab u m j = get_or (task tab u j).times m 0

-- transaction u has a task j
pub record IsTask (tab : Table) (u j : ℕ) : Type 0 where
  pub owner : u < transactions tab
  pub place : j < tasks tab u
