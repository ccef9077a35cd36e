-- Searching the numbers below a count, by decisions alone.
use mathlib.Core.Path.{subst}
use mathlib.Core.Logic.{◌⊎◌, inl, inr}
use Prim.Native.Nat.{ℕ, zero, suc, ◌≤◌, ◌<◌}
use native.Mathlib.Nat.{le_refl}
use native.Mathlib.Decide.{dec_lt}
use native.Mathlib.Omega.{arith}

-- what holds of all below n and of n
extend : {n : ℕ} {R : ℕ → Type 0} → ((i : ℕ) → i < n → R i) → R n → (i : ℕ) → i < suc n → R i
extend {n} {R} r x i l = elim (dec_lt i n) [ yes b ↦ r i b | no b ↦ subst R (omega arith) x ]

-- a find Q at some number, or R at all of them
pub search-below : (n : ℕ) {Q : Type 0} {R : ℕ → Type 0} → ((i : ℕ) → i < n → Q ⊎ R i) → Q ⊎ ((i : ℕ) → i < n → R i)
search-below zero h = inr (λ i l. absurd (omega arith))
search-below (suc n) {Q} {R} h = go (search-below n (λ i l. h i (omega arith))) (h n (omega arith))
  where
    go : Q ⊎ ((i : ℕ) → i < n → R i) → Q ⊎ R n → Q ⊎ ((i : ℕ) → i < suc n → R i)
    go (inl q) x = inl q
    go (inr r) (inl q) = inl q
    go (inr r) (inr x) = inr (extend r x)

-- i has D, and of all numbers below n that have it none has a smaller f
pub record Lowest (n : ℕ) (f : ℕ → ℕ) (D : ℕ → Type 0) : Type 0 where
  pub i : ℕ
  pub below : i < n
  pub has : D i
  pub lowest : (j : ℕ) → j < n → D j → f i ≤ f j

pub search-lowest : (n : ℕ) (f : ℕ → ℕ) {D : ℕ → Type 0} → ((i : ℕ) → Dec (D i)) → Lowest n f D ⊎ ((i : ℕ) → i < n → ¬ (D i))
search-lowest zero f d = inr (λ i l. absurd (omega arith))
search-lowest (suc n) f {D} d = go (search-lowest n f d) (d n)
  where
    last : D n → ((j : ℕ) → j < n → D j → f n ≤ f j) → Lowest (suc n) f D
    last y h =
        record { i = n; below = omega arith; has = y; lowest = extend {R = λ j. D j → f n ≤ f j} h (λ z. le_refl (f n)) }

    still : (x : Lowest n f D) → (D n → f x.i ≤ f n) → Lowest (suc n) f D
    still x h =
        record {
          i = x.i;
          below = omega (arith, x.below);
          has = x.has;
          lowest = extend {R = λ j. D j → f x.i ≤ f j} x.lowest h;
        }

    go : Lowest n f D ⊎ ((i : ℕ) → i < n → ¬ (D i)) → Dec (D n) → Lowest (suc n) f D ⊎ ((i : ℕ) → i < suc n → ¬ (D i))
    go (inl x) (no b) = inl (still x (λ z. absurd (b z)))
    go (inl x) (yes y) =
        elim (dec_lt (f n) (f x.i)) [
          | yes l ↦ inl (last y (λ j b z. omega (arith, x.lowest j b z)))
          | no l ↦ inl (still x (λ z. omega arith))
        ]
    go (inr r) (no b) = inr (extend {R = λ j. ¬ (D j)} r b)
    go (inr r) (yes y) = inl (last y (λ j b z. absurd (r j b z)))
