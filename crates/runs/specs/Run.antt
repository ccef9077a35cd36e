-- A run: what happens, tick by tick. Which runs are legal is said in `Legal`.
use Rattle.std.specs.Prelude.{◌≡◌, ℕ, ◌+◌, ◌*◌}
use Rattle.std.proofs.Math.Decide.{ℕ_discrete}
use Rattle.table.specs.Sum.{sum}
use Rattle.table.specs.Table.{Table, period, offset}
use Rattle.analysis.specs.Choice.{when, Least}

-- what the processor does in one tick: nothing, or the job of event k of task j of transaction i
pub data Slot : Type 0 where
  idle : Slot
  job : (i j k : ℕ) → Slot

-- Events of a transaction are counted from 0
pub record Run : Type 0 where
  pub event : (i : ℕ) → ℕ  -- of a transaction: the tick of its first event
  pub mode : (i k : ℕ) → ℕ  -- of a transaction and an event
  pub ready : (i j k : ℕ) → ℕ  -- of a transaction, a task and an event: the tick at which that job is ready
  pub need : (i j k : ℕ) → ℕ  -- of the same: the ticks it needs
  pub at : (v : ℕ) → Slot  -- of a tick

-- the tick of event k of transaction i: the first, then one every T
unfoldable pub event_tick : Table → Run → (i k : ℕ) → ℕ
event_tick tab ρ i k = ρ.event i + k * period tab i

-- a job arrives O after its event
unfoldable pub arrival : Table → Run → (i j k : ℕ) → ℕ
arrival tab ρ i j k = event_tick tab ρ i k + offset tab i j

-- 1 where the tick serves that job
unfoldable pub serves : (i j k : ℕ) → Slot → ℕ
serves i j k idle = 0
serves i j k (job i' j' k') = when (ℕ_discrete i' i) (when (ℕ_discrete j' j) (when (ℕ_discrete k' k) 1))

-- the ticks before t that served that job
unfoldable pub served : Run → (i j k t : ℕ) → ℕ
served ρ i j k t = sum t (λ v. serves i j k (ρ.at v))

-- that job has finished when tick t begins
abbrev pub Finished : Run → (i j k t : ℕ) → Type 0
Finished ρ i j k t = served ρ i j k t ≡ ρ.need i j k

-- Response runs from event to finish: that job has finished when R has passed since its event, and not before
abbrev pub RespondsIn : Table → Run → (i j k R : ℕ) → Type 0
RespondsIn tab ρ i j k R = Least (λ t. Finished ρ i j k (event_tick tab ρ i k + t)) R
