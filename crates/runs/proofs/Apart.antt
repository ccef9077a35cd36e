-- Sums compared term by term, with one term of the left sum set apart.
use mathlib.Core.Path.{◌≡◌, ap, ◌∙◌}
use mathlib.Core.Logic.{◌≢◌}
use Prim.Native.Nat.{ℕ, zero, suc, ◌+◌, ◌≤◌, ◌<◌}
use native.Mathlib.Decide.{dec_lt, ℕ_discrete}
use native.Mathlib.Omega.{arith}
use Rattle.table.specs.Sum.{sum}
use Rattle.table.proofs.Sum.{sum-le, sum_lt, sum-zero, sum-add}
use Rattle.analysis.specs.Choice.{when}
use Rattle.analysis.proofs.Choice.{when-yes, when-no}

sum-at : (n a X : ℕ) → a < n → sum n (λ i. when (ℕ_discrete i a) X) ≡ X
unfolding sum
sum-at zero a X l = absurd (omega arith)
sum-at (suc n) a X l =
    elim (dec_lt a n) [
      | yes b ↦ omega (arith, sum-at n a X b, when-no (ℕ_discrete n a) X (omega arith))
      | no b ↦
          let rest : sum n (λ i. when (ℕ_discrete i a) X) ≡ 0 = sum-zero n (λ i h. when-no (ℕ_discrete i a) X (omega arith)) in
          omega (arith, when-yes (ℕ_discrete n a) X (omega arith))
    ]

module _ (n a : ℕ) (place : a < n) {f g : ℕ → ℕ} (each : (i : ℕ) → i < n → i ≢ a → f i ≤ g i) where
  with-apart : ℕ → ℕ
  with-apart i = g i + when (ℕ_discrete i a) (f a)

  term : (i : ℕ) → i < n → f i ≤ with-apart i
  unfolding with-apart when
  term i l = go (ℕ_discrete i a)
    where
      go : (d : Dec (i ≡ a)) → f i ≤ g i + when d (f a)
      go (yes e) =
          let same : f i ≡ f a = ap f e in
          omega arith
      go (no h) = omega (arith, each i l h)

  whole : sum n with-apart ≡ sum n g + f a
  unfolding with-apart
  whole =
      sum-add n g (λ i. when (ℕ_discrete i a) (f a))
      ∙ ap (λ (x : ℕ). sum n g + x) (sum-at n a (f a) place)

  pub apart-le : sum n f ≤ f a + sum n g
  apart-le = omega (arith, sum-le n term, whole)

  pub apart-lt : (i : ℕ) → i < n → f i < g i → sum n f < f a + sum n g
  unfolding with-apart
  apart-lt i l s = omega (arith, sum_lt n term i l (omega arith), whole)
