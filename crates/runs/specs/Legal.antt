-- Legal runs of a table: permitted choices, what a tick may serve, and the holding rule.
use Rattle.std.specs.Prelude.{◌≡◌, ℕ, ◌+◌, ◌≤◌, ◌<◌}
use Rattle.std.proofs.Math.Decide.{dec_lt}
use Rattle.table.specs.Sum.{sum}
use Rattle.table.specs.Table.{Table, IsTask, blocking, priority}
use Rattle.analysis.specs.Choice.{when}
use Rattle.runs.specs.Run.{Slot, idle, job, Run, served}
use Rattle.runs.specs.Choices.{Permitted}

-- Tick v may serve that job: a job of the table that is ready and not finished, after the earlier jobs of its task
pub record Servable (tab : Table) (ρ : Run) (v i j k : ℕ) : Type 0 where
  pub is_task : IsTask tab i j
  pub is_ready : ρ.ready i j k ≤ v
  pub unfinished : served ρ i j k v < ρ.need i j k
  pub ordered : (l : ℕ) → l < k → served ρ i j l v ≡ ρ.need i j l

-- Every rule but the holding rule
pub record Rules (tab : Table) (ρ : Run) : Type 0 where
  pub permitted : Permitted tab ρ
  pub serving : (v i j k : ℕ) → ρ.at v ≡ job i j k → Servable tab ρ v i j k

-- a job of priority p or above is pending in tick t: ready and not finished
pub record Pending (tab : Table) (ρ : Run) (p t : ℕ) : Type 0 where
  pub i : ℕ
  pub j : ℕ
  pub k : ℕ
  pub is_task : IsTask tab i j
  pub urgent : p ≤ priority tab i j
  pub ready : ρ.ready i j k ≤ t
  pub unfinished : served ρ i j k t < ρ.need i j k

-- the same of a job that was ready before t: work is left over when tick t begins
pub record Backlog (tab : Table) (ρ : Run) (p t : ℕ) : Type 0 where
  pub i : ℕ
  pub j : ℕ
  pub k : ℕ
  pub is_task : IsTask tab i j
  pub urgent : p ≤ priority tab i j
  pub ready : ρ.ready i j k < t
  pub unfinished : served ρ i j k t < ρ.need i j k

-- 1 where the tick goes to work below priority p, or to none
unfoldable pub lower : Table → (p : ℕ) → Slot → ℕ
lower tab p idle = 1
lower tab p (job i j k) = when (dec_lt (priority tab i j) p) 1

-- the ticks of lower work and idling among the d ticks from s on
unfoldable pub lower_ticks : Table → Run → (p s d : ℕ) → ℕ
lower_ticks tab ρ p s d = sum d (λ v. lower tab p (ρ.at (s + v)))

-- an unbroken stretch: in each of the d ticks from s on a job of priority p or above is pending
abbrev pub Stretch : Table → Run → (p s d : ℕ) → Type 0
Stretch tab ρ p s d = (v : ℕ) → v < d → Pending tab ρ p (s + v)

-- the same, with work left over from each of its ticks to the next
abbrev pub Unbroken : Table → Run → (p s d : ℕ) → Type 0
Unbroken tab ρ p s d = (v : ℕ) → 0 < v → v < d → Backlog tab ρ p (s + v)

-- The holding rule in the d ticks from s on, with task a of u as a: of an unbroken stretch lower work and idling together
-- take at most B ticks
abbrev pub HoldsIn : Table → Run → (u a s d : ℕ) → Type 0
HoldsIn tab ρ u a s d =
    Stretch tab ρ (priority tab u a) s d → lower_ticks tab ρ (priority tab u a) s d ≤ blocking tab u a

-- The holding rule with task a of u as a: it holds of any stretch
abbrev pub Holds : Table → Run → (u a : ℕ) → Type 0
Holds tab ρ u a = (s d : ℕ) → HoldsIn tab ρ u a s d

-- The same where a stretch ends as soon as the backlog empties: more runs keep this rule
abbrev pub HoldsWidely : Table → Run → (u a : ℕ) → Type 0
HoldsWidely tab ρ u a = (s d : ℕ) → Unbroken tab ρ (priority tab u a) s d → HoldsIn tab ρ u a s d

-- A legal run keeps every rule, the holding rule with each task as a
pub record Legal (tab : Table) (ρ : Run) : Type 0 where
  pub rules : Rules tab ρ
  pub holds : (u a : ℕ) → IsTask tab u a → Holds tab ρ u a
