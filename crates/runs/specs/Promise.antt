-- Demand 3, as what is promised of a bound.
use Rattle.std.specs.Prelude.{ℕ, ◌+◌}
use Rattle.table.specs.Table.{Table}
use Rattle.runs.specs.Run.{Run, Finished, event_tick}
use Rattle.runs.specs.Legal.{Legal}

-- in every legal run each job of task a of u has finished when R has passed since its event
abbrev pub Safe : Table → (u a R : ℕ) → Type 0
Safe tab u a R = (ρ : Run) → Legal tab ρ → (k : ℕ) → Finished ρ u a k (event_tick tab ρ u k + R)
