-- Choosing by a decision, the greatest of some numbers, and the least number with a property.
use Rattle.std.specs.Prelude.{ℕ, zero, suc, ◌≤◌, max, ℤ, pos, negsuc}

-- x where the decision is yes, else 0
unfoldable pub when : {A : Type 0} → Dec A → ℕ → ℕ
when (yes a) x = x
when (no h) x = 0

-- x where the decision is no, else 0
unfoldable pub unless : {A : Type 0} → Dec A → ℕ → ℕ
unless (yes a) x = 0
unless (no h) x = x

-- the greatest of f 0, .., f (n − 1), or 0
unfoldable pub most : (n : ℕ) (f : ℕ → ℕ) → ℕ
most zero f = 0
most (suc n) f = max (most n f) (f n)

-- t has the property, and nothing below it has
pub record Least (Has : ℕ → Type 0) (t : ℕ) : Type 0 where
  pub has : Has t
  pub least : (s : ℕ) → Has s → t ≤ s

-- a signed number as a count: 0 where it is below 0
unfoldable pub count : ℤ → ℕ
count (pos n) = n
count (negsuc n) = 0
