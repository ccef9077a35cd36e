-- Sums, greatests and choices of one number, and sums that differ at one term.
use mathlib.Core.Path.{◌≡◌, refl, ap, ◌∙◌}
use Prim.Native.Nat.{ℕ, zero, suc, ◌+◌, ◌≤◌, ◌<◌}
use native.Mathlib.Decide.{ℕ_discrete}
use native.Mathlib.Omega.{arith}
use Rattle.table.specs.Sum.{sum}
use Rattle.table.proofs.Sum.{sum-le}
use Rattle.analysis.specs.Choice.{unless, most}

-- of one number
pub sum_one : (f : ℕ → ℕ) {n : ℕ} → n ≡ 1 → sum n f ≡ f 0
unfolding sum
sum_one f e = ap (λ (n : ℕ). sum n f) e ∙ omega arith

pub most-one : (f : ℕ → ℕ) {n : ℕ} → n ≡ 1 → most n f ≡ f 0
unfolding most
most-one f e = ap (λ (n : ℕ). most n f) e ∙ omega arith

pub unless-same : {A : Type 0} (d : Dec A) {x y : ℕ} → (¬ A → x ≡ y) → unless d x ≡ unless d y
unfolding unless
unless-same (yes a) e = refl
unless-same (no f) e = e f

-- Sums that are compared term by term, all but term k: of that one r is left over, and K is lent
pub sum-aside : (n : ℕ) {f g : ℕ → ℕ} (k r K : ℕ) → k < n → ((i : ℕ) → i < n → ¬ (i ≡ k) → f i ≤ g i) → f k + r ≤ g k + K → sum n f + r ≤ sum n g + K
unfolding sum
sum-aside zero k r K l each at = absurd (omega arith)
sum-aside (suc n) {f} {g} k r K l each at =
    elim (ℕ_discrete n k) [
      | yes e ↦
          let rest : sum n f ≤ sum n g = sum-le n (λ i h. each i (omega arith) (λ q. omega arith)) in
          omega (arith, ap f e, ap g e)
      | no e ↦
          let last : f n ≤ g n = each n (omega arith) e in
          omega (arith, sum-aside n k r K (omega arith) (λ i h. each i (omega arith)) at)
    ]
