-- Ranges of the fields of a table that keeps its bounds. (The computed cases are brought in so that they are checked first.)
use Prim.Native.Nat.{ℕ, ◌^◌, ◌≤◌, ◌<◌}
use native.Mathlib.Nat.{mod-eq_of_lt}
use native.Mathlib.Decide.{dec_lt}
use native.Mathlib.Omega.{arith}
use Rattle.table.specs.Cases
use Rattle.table.specs.Limits.{modes_most, tasks_most}
use Rattle.table.specs.Table.{Table, IsTask, transactions, period, modes, tasks, task, offset, jitter, time}
use Rattle.table.specs.Kept.{Kept}

module _ {tab : Table} (kept : Kept tab) {i : ℕ} (h : i < transactions tab) where
  pub kept-period : 0 < period tab i
  unfolding period
  kept-period = (kept.each i h).period

  -- a period divides the major frame, which is not 0
  pub period-lt : period tab i < 2 ^ 24
  unfolding period
  period-lt =
      elim (dec_lt tab.frame (period tab i)) [
        | yes l ↦ absurd (omega (arith, mod-eq_of_lt l, (kept.each i h).divides, kept.some_frame))
        | no l ↦ omega (arith, kept.frame)
      ]

  pub tasks-few : tasks tab i ≤ tasks_most
  unfolding tasks
  tasks-few = (kept.each i h).few_tasks

  pub modes-few : modes tab i ≤ modes_most
  unfolding modes
  modes-few = (kept.each i h).few_modes

module _ {tab : Table} (kept : Kept tab) {i j : ℕ} (t : IsTask tab i j) where
  pub offset-lt : offset tab i j < 2 ^ 24
  unfolding offset task tasks
  offset-lt = ((kept.each i t.owner).each j t.place).offset

  pub jitter-lt : jitter tab i j < 2 ^ 24
  unfolding jitter task tasks
  jitter-lt = ((kept.each i t.owner).each j t.place).jitter

  pub time-lt : {m : ℕ} → m < modes tab i → time tab i m j < 2 ^ 24
  unfolding time task tasks modes
  time-lt {m} l = ((kept.each i t.owner).each j t.place).time m l
