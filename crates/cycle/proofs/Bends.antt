-- Functions that rise by at most r in D ticks, and by no less the later: sums and greatest of them are such functions too. One that
-- rises by at most D, and was seen to rise by D, goes on so.
use mathlib.Core.Path.{◌≡◌, refl, ap}
use Prim.Native.Nat.{ℕ, zero, suc, ◌+◌, ◌*◌, ◌≤◌, ◌<◌, max}
use native.Mathlib.Nat.{zero-mul, suc-mul}
use native.Mathlib.Omega.{arith}
use Rattle.table.specs.Sum.{sum}
use Rattle.analysis.specs.Choice.{when, unless, most}
use Rattle.cycle.proofs.Steady.{Steady}

pub record Bends (D r : ℕ) (f : ℕ → ℕ) : Type 0 where
  pub slow : (t : ℕ) → f (t + D) ≤ f t + r
  pub bends : (t : ℕ) → f (t + D) + f (t + D) ≤ f t + f (t + D + D)

-- it cannot rise by less than it did, nor by more than D
pub bends-steady : {D : ℕ} {f : ℕ → ℕ} → Bends D D f → Steady f D
bends-steady {D} {f} b = record { on = λ z once k. (both z once k).0 }
  where
    both : (z : ℕ) → f (z + D) ≡ f z + D → (k : ℕ) → (f (z + k * D) ≡ f z + k * D) × (f (z + k * D + D) ≡ f z + k * D + D)
    both z once zero =
        let same : f (z + 0 * D) ≡ f z = ap f (omega (arith, zero-mul D)) in
        let later : f (z + 0 * D + D) ≡ f (z + D) = ap f (omega (arith, zero-mul D)) in
        (omega (arith, zero-mul D), omega (arith, zero-mul D))
    both z once (suc k) =
        let (here, there) = both z once k in
        let same : f (z + suc k * D) ≡ f (z + k * D + D) = ap f (omega (arith, suc-mul k D)) in
        let later : f (z + suc k * D + D) ≡ f (z + k * D + D + D) = ap f (omega (arith, suc-mul k D)) in
        (omega (arith, suc-mul k D), omega (arith, suc-mul k D, b.bends (z + k * D), b.slow (z + k * D + D)))

module _ {D : ℕ} where
  -- one that rises by r in any D ticks
  pub bends-plain : {r : ℕ} {f : ℕ → ℕ} → ((t : ℕ) → f (t + D) ≡ f t + r) → Bends D r f
  bends-plain {f = f} e =
      record {
        slow = λ t. omega (arith, e t);
        bends = λ t. omega (arith, e t, e (t + D));
      }

  pub bends-more : {r s : ℕ} {f : ℕ → ℕ} → r ≤ s → Bends D r f → Bends D s f
  bends-more h b = record { slow = λ t. omega (arith, b.slow t); bends = b.bends }

  pub bends-add : {r s : ℕ} {f g : ℕ → ℕ} → Bends D r f → Bends D s g → Bends D (r + s) (λ t. f t + g t)
  bends-add b c =
      record {
        slow = λ t. omega (arith, b.slow t, c.slow t);
        bends = λ t. omega (arith, b.bends t, c.bends t);
      }

  pub bends-sum : (n : ℕ) {r : ℕ → ℕ} {f : ℕ → ℕ → ℕ} → ((i : ℕ) → i < n → Bends D (r i) (f i)) → Bends D (sum n r) (λ t. sum n (λ i. f i t))
  unfolding sum
  bends-sum zero each = bends-plain (λ t. refl)
  bends-sum (suc n) each = bends-add (bends-sum n (λ i l. each i (omega arith))) (each n (omega arith))

  bends-max : {r : ℕ} {f g : ℕ → ℕ} → Bends D r f → Bends D r g → Bends D r (λ t. max (f t) (g t))
  bends-max b c =
      record {
        slow = λ t. omega (arith, b.slow t, c.slow t);
        bends = λ t. omega (arith, b.bends t, c.bends t);
      }

  pub bends-most : (n : ℕ) {r : ℕ} {f : ℕ → ℕ → ℕ} → ((i : ℕ) → i < n → Bends D r (f i)) → Bends D r (λ t. most n (λ i. f i t))
  unfolding most
  bends-most zero each = bends-more (omega arith) (bends-plain {r = 0} (λ t. refl))
  bends-most (suc n) each = bends-max (bends-most n (λ i l. each i (omega arith))) (each n (omega arith))

  pub bends-when : {A : Type 0} (d : Dec A) {r : ℕ} {f : ℕ → ℕ} → Bends D r f → Bends D r (λ t. when d (f t))
  unfolding when
  bends-when (yes a) b = b
  bends-when (no h) b = bends-more (omega arith) (bends-plain {r = 0} (λ t. refl))

  pub bends-unless : {A : Type 0} (d : Dec A) {r : ℕ} {f : ℕ → ℕ} → (¬ A → Bends D r f) → Bends D (unless d r) (λ t. unless d (f t))
  unfolding unless
  bends-unless (yes a) b = bends-plain (λ t. refl)
  bends-unless (no h) b = b h
