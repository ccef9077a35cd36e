-- Every limit of document 01, named once for the definitions.
use Rattle.std.specs.Prelude.{ℕ}

-- H, in ticks
abbrev pub horizon : ℕ
horizon = 16_777_215

abbrev pub frame_most : ℕ
frame_most = 16_777_215

abbrev pub transactions_most : ℕ
transactions_most = 63

abbrev pub modes_most : ℕ
modes_most = 8

-- tasks in one transaction, and in all
abbrev pub tasks_most : ℕ
tasks_most = 16

abbrev pub tasks_in_all : ℕ
tasks_in_all = 128

-- the limits that a table's rules take, and document 01's
pub record Limits : Type 0 where
  pub transactions : ℕ
  pub modes : ℕ
  pub tasks : ℕ
  pub in_all : ℕ

abbrev pub limits : Limits
limits = record { transactions = transactions_most; modes = modes_most; tasks = tasks_most; in_all = tasks_in_all }

-- the one edition
abbrev pub edition_known : ℕ
edition_known = 1

-- widths of the fields, in bits
abbrev pub edition_width : ℕ
edition_width = 4

abbrev pub frame_width : ℕ
frame_width = 24

abbrev pub transactions_width : ℕ
transactions_width = 6

abbrev pub period_width : ℕ
period_width = 24

abbrev pub modes_width : ℕ
modes_width = 4

abbrev pub tasks_width : ℕ
tasks_width = 5

abbrev pub offset_width : ℕ
offset_width = 24

abbrev pub jitter_width : ℕ
jitter_width = 24

abbrev pub blocking_width : ℕ
blocking_width = 24

abbrev pub deadline_width : ℕ
deadline_width = 26

abbrev pub priority_width : ℕ
priority_width = 8

abbrev pub time_width : ℕ
time_width = 24
