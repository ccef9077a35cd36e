-- What counting whole cycles of an L chain at once says of the chain, in the code's own types.
use Rattle.std.specs.Prelude.{◌≡◌, ℕ, ◌+◌, ◌*◌, ◌-◌, ◌≤◌, ◌<◌}
use Rattle.table.specs.Table.{Table}
use Rattle.table.specs.Limits.{horizon}
use Rattle.analysis.specs.Walk.{chain, beyond?}
use Rattle.answers.specs.declared.ahead.Ahead.{Ahead}

-- a t that an L chain can be at
abbrev pub Met : ℕ → Type 0
Met t = (1 ≤ t) × (t ≤ horizon)

-- v is the value at z, above it and not beyond the end, and comes again D later
pub record Follows (f : ℕ → ℕ) (D end z v : ℕ) : Type 0 where
  pub value : v ≡ f z
  pub above : z < v
  pub within : v ≤ end
  pub again : f (z + D) ≡ v + D

-- from x to y it is so many major frames
pub record WholeFrames (tab : Table) (x y : ℕ) : Type 0 where
  pub frames : ℕ
  pub is : y ≡ x + frames * tab.frame

-- after r's evaluations, of those left, the chain of f from t stands where r says, and goes on from there
pub record GoesOn (f : ℕ → ℕ) (left t : ℕ) (r : Ahead) : Type 0 where
  pub within : r.evaluations ≤ left
  pub same : chain f beyond? (left - r.evaluations) r.t.0 ≡ chain f beyond? left t
  pub met : Met r.t.0
  pub mark : Met r.mark.0
