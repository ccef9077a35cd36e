-- The plain jitter analysis, for a table where each transaction has one task and one mode: there task number u is task 0 of
-- transaction u, and runs in mode 0. Offsets play no part in it.
use Rattle.std.specs.Prelude.{◌≡◌, ℕ, ◌+◌, ◌≤◌, ◌<◌}
use Rattle.std.proofs.Math.Decide.{ℕ_discrete}
use Rattle.table.specs.Sum.{sum}
use Rattle.table.specs.Limits.{horizon}
use Rattle.table.specs.Table.{Table, transactions, period, modes, tasks, jitter, blocking, time}
use Rattle.analysis.specs.Choice.{when, unless, Least}
use Rattle.analysis.specs.Rival.{urgent?}
use Rattle.jitter.specs.Request.{request}

pub record Single (tab : Table) : Type 0 where
  pub one_task : (i : ℕ) → i < transactions tab → tasks tab i ≡ 1
  pub one_mode : (i : ℕ) → i < transactions tab → modes tab i ≡ 1

-- what the task of transaction i requests by t
unfoldable pub request_of : Table → (i t : ℕ) → ℕ
request_of tab i t = request (period tab i) (jitter tab i 0) (time tab i 0 0) t

-- the same of another task than u's, of equal or higher priority, and 0 of any else
unfoldable pub rival_request : Table → (u t i : ℕ) → ℕ
rival_request tab u t i = unless (ℕ_discrete i u) (when (urgent? tab u 0 i 0) (request_of tab i t))

-- B + C + the sum over the other tasks of equal or higher priority
unfoldable pub workload : Table → (u t : ℕ) → ℕ
workload tab u t = blocking tab u 0 + time tab u 0 0 + sum (transactions tab) (rival_request tab u t)

-- Completion: the least t ≥ 1 with workload = t
abbrev pub Completes : Table → (u t : ℕ) → Type 0
Completes tab u t = (1 ≤ t) × (workload tab u t ≡ t)

abbrev pub Completion : Table → (u t : ℕ) → Type 0
Completion tab u = Least (Completes tab u)

-- the response of a task that completes at t: t + J
unfoldable pub response_of : Table → (u t : ℕ) → ℕ
response_of tab u t = t + jitter tab u 0

-- no completion up to H
abbrev pub Never : Table → (u : ℕ) → Type 0
Never tab u = (t : ℕ) → t ≤ horizon → ¬ (Completes tab u t)
