-- How few there are of what a table's row holds, for the places that code works out of it.
use mathlib.Core.List.{List}
use Prim.Native.Nat.{ℕ, ◌+◌, ◌^◌, ◌≤◌, ◌<◌}
use native.Mathlib.Omega.{arith}
use Rattle.table.specs.Limits.{transactions_most, modes_most, tasks_most, tasks_in_all}
use Rattle.table.specs.Table.{IsTask, transactions, tasks, modes, period, offset, jitter}
use Rattle.table.specs.Number.{before, number}
use Rattle.table.proofs.Number.{number_lt}
use Rattle.table.proofs.Ranges.{modes-few, tasks-few, kept-period, period-lt, offset-lt, jitter-lt}
use Rattle.charge.proofs.Along.{end-le}
use Rattle.row.specs.Row.{table_of, RowOfTable}
use Rattle.row.proofs.Fields.{in-all-cell, read_first, read-tasks, read-modes, read-period, read-offset, read-jitter, read-blocking, read-priority, read-time}
use Rattle.analysis.specs.Charge.{phase_of}
use Rattle.charge.proofs.Ranges.{phase-of-lt}

pub few_transactions : {work : List ℕ} → RowOfTable work → transactions (table_of work) ≤ transactions_most
few_transactions table = table.kept.few_transactions

module _ {work : List ℕ} (table : RowOfTable work) {i : ℕ} where
  pub few_modes : i < transactions (table_of work) → modes (table_of work) i ≤ modes_most
  few_modes h = modes-few table.kept h

  pub few_tasks : i < transactions (table_of work) → tasks (table_of work) i ≤ tasks_most
  few_tasks h = tasks-few table.kept h

  pub end_within : i < transactions (table_of work) → before (table_of work) i + tasks (table_of work) i ≤ tasks_in_all
  end_within h = end-le h table.kept

  pub number_within : {j : ℕ} → IsTask (table_of work) i j → number (table_of work) i j < tasks_in_all
  number_within is = omega (arith, number_lt (table_of work) is, table.kept.few_tasks)

  pub period_some : i < transactions (table_of work) → 0 < period (table_of work) i
  period_some h = kept-period table.kept h

  pub period_small : i < transactions (table_of work) → period (table_of work) i < 2 ^ 24
  period_small h = period-lt table.kept h

  pub offset_small : {j : ℕ} → IsTask (table_of work) i j → offset (table_of work) i j < 2 ^ 24
  offset_small is = offset-lt table.kept is

  pub jitter_small : {j : ℕ} → IsTask (table_of work) i j → jitter (table_of work) i j < 2 ^ 24
  jitter_small is = jitter-lt table.kept is

  pub phase_small : {j : ℕ} → IsTask (table_of work) i j → (c : ℕ) → phase_of (table_of work) i c j < 2 ^ 24
  phase_small is c = phase-of-lt table.kept is c

pub ruleset rooms = (few_transactions, few_modes, few_tasks, end_within, number_within)

pub ruleset ranges = (period_some, period_small, offset_small, jitter_small, phase_small)

-- and what the row's readers give
pub ruleset fields = (in-all-cell, read_first, read-tasks, read-modes, read-period, read-offset, read-jitter, read-blocking, read-priority, read-time)
