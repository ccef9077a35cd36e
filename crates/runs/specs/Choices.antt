-- What is chosen before the processor serves anything: first events, modes, ready ticks, needs.
use Rattle.std.specs.Prelude.{◌≡◌, ℕ, suc, ◌+◌, ◌≤◌, ◌<◌}
use Rattle.table.specs.Table.{Table, IsTask, transactions, modes, jitter, time}
use Rattle.runs.specs.Run.{Run, arrival}

-- The choices of ρ are permitted; nothing is said of its ticks
pub record Permitted (tab : Table) (ρ : Run) : Type 0 where
  -- each event has a mode, and a transaction keeps one mode throughout
  pub mode : (i k : ℕ) → i < transactions tab → ρ.mode i k < modes tab i
  pub steady : (i k : ℕ) → i < transactions tab → ρ.mode i k ≡ ρ.mode i 0
  -- a job is ready from its arrival to J later, and the jobs of one task become ready in arrival order
  pub arrived : (i j k : ℕ) → IsTask tab i j → arrival tab ρ i j k ≤ ρ.ready i j k
  pub prompt : (i j k : ℕ) → IsTask tab i j → ρ.ready i j k ≤ arrival tab ρ i j k + jitter tab i j
  pub in_order : (i j k : ℕ) → IsTask tab i j → ρ.ready i j k ≤ ρ.ready i j (suc k)
  -- it needs 1 to C ticks; where C is 0 there is no job, which needs none
  pub need_most : (i j k : ℕ) → IsTask tab i j → ρ.need i j k ≤ time tab i (ρ.mode i k) j
  pub need_some : (i j k : ℕ) → IsTask tab i j → 0 < time tab i (ρ.mode i k) j → 0 < ρ.need i j k
