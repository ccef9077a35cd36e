-- The transaction that a bit position behind the header lies in, and the task.
use Rattle.std.specs.Prelude.{◌≡◌, List, Option, Some, None, ℕ, suc, ◌≤◌, ◌<◌}
use Rattle.table.specs.Fields.{TaskField}
use Rattle.table.specs.Fields.Field.{task}
use Rattle.format.specs.Places.{task_at, start}
use Rattle.format.specs.Said.{count_in, modes_in, tasks_before}
use Rattle.places.specs.declared.Owner.{Owner}
use Rattle.places.specs.declared.Spot.{Spot}
use Rattle.places.specs.Held.{Holds}

-- bit p is one of transaction u
pub record Owns (image : List ℕ) (u p : ℕ) : Type 0 where
  pub from : start image u ≤ p
  pub below : p < start image (suc u)

-- bit p is one of that transaction
pub record OwnsAs (image : List ℕ) (p : ℕ) (o : Owner) : Type 0 where
  pub counted : o.transaction < count_in image
  pub owns : Owns image o.transaction p
  pub tasks : o.before ≡ tasks_before image o.transaction
  pub modes : o.modes ≡ modes_in image (start image o.transaction)
  pub starts : o.at ≡ start image o.transaction

-- which transaction that is, or that p lies behind the last
abbrev pub OwnedBy : List ℕ → (p : ℕ) → Option Owner → Type 0
OwnedBy image p (Some o) = OwnsAs image p o
OwnedBy image p None = start image (count_in image) ≤ p

-- some field of the task of m modes that starts at q holds bit p
pub record InTaskAt (image : List ℕ) (p q m : ℕ) : Type 0 where
  pub u : ℕ
  pub j : ℕ
  pub field : TaskField
  pub holds : Holds image (task u j field) p
  pub modes : m ≡ modes_in image (start image u)
  pub starts : q ≡ task_at (start image u) m j

-- which task that is, or that no field of a task holds bit p
abbrev pub SpotAt : List ℕ → (p : ℕ) → Option Spot → Type 0
SpotAt image p (Some s) = InTaskAt image p s.at s.modes
SpotAt image p None = (u j : ℕ) (f : TaskField) → ¬ Holds image (task u j f) p
