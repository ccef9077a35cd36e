-- The first that gives the greatest: of settings that stand in an order, each of which may give numbers, x gives r, none gives
-- more, and whatever stands before x gives less.
use Rattle.std.specs.Prelude.{ℕ, ◌≤◌, ◌<◌}

pub record First {A : Type 0} (Before : A → A → Type 0) (Gives : A → ℕ → Type 0) (x : A) (r : ℕ) : Type 0 where
  pub gives : Gives x r
  pub greatest : (y : A) (s : ℕ) → Gives y s → s ≤ r
  pub first : (y : A) (s : ℕ) → Before y x → Gives y s → s < r
