-- A beginning of a run that breaks no rule, and what it is to go on from one.
use Rattle.std.specs.Prelude.{◌≡◌, ℕ, ◌+◌, ◌≤◌, ◌<◌}
use Rattle.table.specs.Table.{Table, IsTask}
use Rattle.runs.specs.Run.{job, Run}
use Rattle.runs.specs.Choices.{Permitted}
use Rattle.runs.specs.Legal.{Servable, HoldsIn, Legal}

-- Every rule but the holding rule, kept by the ticks of ρ before t
pub record RulesUpTo (tab : Table) (ρ : Run) (t : ℕ) : Type 0 where
  pub permitted : Permitted tab ρ
  pub serving : (v i j k : ℕ) → v < t → ρ.at v ≡ job i j k → Servable tab ρ v i j k

-- The holding rule with task a of u as a, of the stretches that end by t
abbrev pub HoldsUpTo : Table → Run → (t u a : ℕ) → Type 0
HoldsUpTo tab ρ t u a = (s d : ℕ) → s + d ≤ t → HoldsIn tab ρ u a s d

-- A beginning that breaks no rule: the ticks of ρ before t. What ρ does from t on does not matter
pub record LegalUpTo (tab : Table) (ρ : Run) (t : ℕ) : Type 0 where
  pub rules : RulesUpTo tab ρ t
  pub holds : (u a : ℕ) → IsTask tab u a → HoldsUpTo tab ρ t u a

-- ρ' goes on from tick t of ρ: the same choices, and the same ticks before t
pub record GoesOn (ρ : Run) (t : ℕ) (ρ' : Run) : Type 0 where
  pub event : ρ'.event ≡ ρ.event
  pub mode : ρ'.mode ≡ ρ.mode
  pub ready : ρ'.ready ≡ ρ.ready
  pub need : ρ'.need ≡ ρ.need
  pub before : (v : ℕ) → v < t → ρ'.at v ≡ ρ.at v

-- a legal run that goes on from tick t of ρ
pub record Extension (tab : Table) (ρ : Run) (t : ℕ) : Type 0 where
  pub run : Run
  pub goes_on : GoesOn ρ t run
  pub legal : Legal tab run
