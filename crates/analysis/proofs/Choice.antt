-- Laws of choosing by a decision, of the greatest of some numbers, and of least numbers.
use mathlib.Core.Path.{◌≡◌, refl}
use mathlib.Core.Logic.{◌⊎◌, inl, inr}
use Prim.Native.Nat.{ℕ, zero, suc, ◌≤◌, ◌<◌, max}
use native.Mathlib.Nat.{le_refl, le_antisymm, le_trans, le-max_left, le-max_right, max-le, eq-or-lt_of_le, le_of_suc-le-suc}
use native.Mathlib.Omega.{arith}
use Rattle.analysis.specs.Choice.{when, unless, most, Least}
use Rattle.analysis.specs.Cases

-- ---- a decision

pub when-yes : {A : Type 0} (d : Dec A) (x : ℕ) → A → when d x ≡ x
unfolding when
when-yes (yes a) x h = refl
when-yes (no f) x h = absurd (f h)

pub when-no : {A : Type 0} (d : Dec A) (x : ℕ) → ¬ A → when d x ≡ 0
unfolding when
when-no (yes a) x h = absurd (h a)
when-no (no f) x h = refl

pub when-le : {A : Type 0} (d : Dec A) (x : ℕ) → when d x ≤ x
unfolding when
when-le (yes a) x = le_refl x
when-le (no f) x = omega arith

pub when-mono : {A : Type 0} (d : Dec A) {x y : ℕ} → (A → x ≤ y) → when d x ≤ when d y
unfolding when
when-mono (yes a) h = h a
when-mono (no f) h = omega arith

pub unless-yes : {A : Type 0} (d : Dec A) (x : ℕ) → A → unless d x ≡ 0
unfolding unless
unless-yes (yes a) x h = refl
unless-yes (no f) x h = absurd (f h)

pub unless-no : {A : Type 0} (d : Dec A) (x : ℕ) → ¬ A → unless d x ≡ x
unfolding unless
unless-no (yes a) x h = absurd (h a)
unless-no (no f) x h = refl

pub unless-le : {A : Type 0} (d : Dec A) (x : ℕ) → unless d x ≤ x
unfolding unless
unless-le (yes a) x = omega arith
unless-le (no h) x = le_refl x

pub unless-mono : {A : Type 0} (d : Dec A) {x y : ℕ} → (¬ A → x ≤ y) → unless d x ≤ unless d y
unfolding unless
unless-mono (yes a) h = omega arith
unless-mono (no f) h = h f

-- ---- the greatest

pub most-ge : (n : ℕ) (f : ℕ → ℕ) (i : ℕ) → i < n → f i ≤ most n f
unfolding most
most-ge zero f i h = omega arith
most-ge (suc n) f i h = go (most-ge n f i) (eq-or-lt_of_le (le_of_suc-le-suc h))
  where
    go : (i < n → f i ≤ most n f) → (i ≡ n) ⊎ (i < n) → f i ≤ max (most n f) (f n)
    go r (inl e) = rw e (le-max_right (most n f) (f n))
    go r (inr l) = le_trans (r l) (le-max_left (most n f) (f n))

pub most-le : (n : ℕ) {f : ℕ → ℕ} {k : ℕ} → ((i : ℕ) → i < n → f i ≤ k) → most n f ≤ k
unfolding most
most-le zero h = omega arith
most-le (suc n) h = max-le (most-le n (λ i l. h i (omega arith))) (h n (omega arith))

pub most-mono : (n : ℕ) {f g : ℕ → ℕ} → ((i : ℕ) → i < n → f i ≤ g i) → most n f ≤ most n g
most-mono n {g} h = most-le n (λ i l. le_trans (h i l) (most-ge n g i l))

-- ---- the least

-- two least numbers with one property are one
pub least-unique : {Has : ℕ → Type 0} {s t : ℕ} → Least Has s → Least Has t → s ≡ t
least-unique {s} {t} x y = le_antisymm (x.least t y.has) (y.least s x.has)
