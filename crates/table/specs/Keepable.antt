-- A deadline that can be kept: document 02's rule said of a table, and the refusal that looks at it.
use Rattle.std.specs.Prelude.{◌≡◌, ℕ, ◌+◌, ◌≤◌}
use Rattle.std.proofs.Common.{arith, lit<}
use Rattle.refusals.specs.declared.Refusal.{Refusal}
use Rattle.refusals.specs.Answer.{refusal_number}
use Rattle.table.specs.Sum.{greatest}
use Rattle.table.specs.Table.{Table, transactions, transaction, modes, tasks, task, offset, deadline, time, IsTask}
use Rattle.table.specs.Sample.{plain, lone}

-- the greatest time of task j of transaction u
unfoldable pub greatest_time : Table → ℕ → ℕ → ℕ
greatest_time tab u j = greatest (modes tab u) (λ m. time tab u m j)

-- its deadline is not below its offset plus that
abbrev pub IsKeepable : Table → ℕ → ℕ → Type 0
IsKeepable tab u j = offset tab u j + greatest_time tab u j ≤ deadline tab u j

pub record EachKeepable (tab : Table) : Type 0 where
  pub each : (u j : ℕ) → IsTask tab u j → IsKeepable tab u j

abbrev pub IsShort : Refusal → Type 0
IsShort refusal = refusal_number refusal ≡ 14

-- a tick short
short-not-keepable : ¬ (EachKeepable (lone 10 (plain 4 3 5 6)))
unfolding transactions transaction modes tasks task offset deadline time greatest greatest_time
short-not-keepable k =
    let keepable : 7 ≤ 6 = k.each 0 0 (record { owner = lit< tt; place = lit< tt }) in
    omega arith
