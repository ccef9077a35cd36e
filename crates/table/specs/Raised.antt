-- Limits that are raised: more transactions or more tasks are let in, and nothing else is.
use Rattle.std.specs.Prelude.{◌≡◌, ◌⊎◌, ◌≤◌}
use Rattle.refusals.specs.declared.Refusal.{Refusal}
use Rattle.refusals.specs.Answer.{refusal_number}
use Rattle.table.specs.Limits.{Limits, modes_most, tasks_most}

pub record Raises (small large : Limits) : Type 0 where
  pub transactions : small.transactions ≤ large.transactions
  pub modes : small.modes ≡ large.modes
  pub tasks : small.tasks ≤ large.tasks
  pub in_all : small.in_all ≤ large.in_all

-- document 01's own, which document 02 raises
abbrev pub limits_before : Limits
limits_before = record { transactions = 32; modes = modes_most; tasks = tasks_most; in_all = 64 }

-- 4 and 7 look at a limit that may be raised
abbrev pub IsCount : Refusal → Type 0
IsCount refusal = (refusal_number refusal ≡ 4) ⊎ (refusal_number refusal ≡ 7)
