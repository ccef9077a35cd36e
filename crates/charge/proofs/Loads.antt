-- Ranges of the loads that overload compares: what the code adds up in one major frame stays far below 2 ^ 64.
use Prim.Native.Nat.{ℕ, ◌+◌, ◌*◌, ◌/◌, ◌^◌, ◌≤◌, ◌<◌}
use native.Mathlib.Nat.{le_trans, mul-le-mul, div-le_self}
use native.Mathlib.Omega.{arith}
use Rattle.table.specs.Sum.{sum}
use Rattle.table.specs.Limits.{transactions_most, tasks_most, frame_most}
use Rattle.table.specs.Table.{Table, transactions, period, modes, tasks, time}
use Rattle.table.specs.Kept.{Kept}
use Rattle.table.proofs.Sum.{sum-most, sum_room}
use Rattle.table.proofs.Ranges.{tasks-few, time-lt}
use Rattle.analysis.specs.Choice.{when}
use Rattle.analysis.specs.Rival.{urgent?}
use Rattle.analysis.specs.Overload.{load, counts?, most_load}
use Rattle.analysis.proofs.Choice.{when-le, most-le}

-- ---- what the loops add up or compare: the time of an urgent task, the load of a mode that counts, what a transaction
-- demands in one major frame

abbrev pub urgent_time : Table → (u a i m j : ℕ) → ℕ
urgent_time tab u a i m j = when (urgent? tab u a i j) (time tab i m j)

abbrev pub counted_load : Table → (u a i m : ℕ) → ℕ
counted_load tab u a i m = when (counts? tab u a i m) (load tab u a i m)

abbrev pub share : Table → (u a i : ℕ) → ℕ
share tab u a i = tab.frame / period tab i * most_load tab u a i

-- the greatest load of a transaction, and its greatest share
abbrev load_most : ℕ
load_most = tasks_most * 2 ^ 24

abbrev share_most : ℕ
share_most = frame_most * load_most

module _ {tab : Table} (kept : Kept tab) (u a : ℕ) where
  module _ {i m : ℕ} (h : i < transactions tab) (mode : m < modes tab i) where
    urgent-time-le : (j : ℕ) → j < tasks tab i → urgent_time tab u a i m j ≤ 2 ^ 24
    urgent-time-le j l =
        le_trans (when-le (urgent? tab u a i j) _) (omega (arith, time-lt kept (record { owner = h; place = l }) mode))

    -- the tasks up to j
    pub load-room : (j : ℕ) → j < tasks tab i → sum j (urgent_time tab u a i m) + urgent_time tab u a i m j ≤ load_most
    load-room j l = omega (arith, sum_room j urgent-time-le l, tasks-few kept h)

    load-le : load tab u a i m ≤ load_most
    unfolding load
    load-le = omega (arith, sum-most (tasks tab i) urgent-time-le, tasks-few kept h)

  pub share-le : (i : ℕ) → i < transactions tab → share tab u a i ≤ share_most
  unfolding most_load
  share-le i h =
      mul-le-mul {n₂ = frame_most} {m₂ = load_most} (omega (arith, div-le_self tab.frame (period tab i), kept.frame))
      (most-le (modes tab i) (λ m l. le_trans (when-le (counts? tab u a i m) _) (load-le h l)))

  -- the transactions up to i
  pub demand-room : (i : ℕ) → i < transactions tab → sum i (share tab u a) + share tab u a i ≤ transactions_most * share_most
  demand-room i h = omega (arith, sum_room i share-le h, kept.few_transactions)
