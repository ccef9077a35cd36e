-- Laws of sums and of the greatest, over any count and any terms.
use mathlib.Core.Path.{◌≡◌, refl, ap, ap₂, sym, ◌∙◌}
use Prim.Native.Nat.{ℕ, zero, suc, ◌+◌, ◌*◌, ◌≤◌, ◌<◌, zero-le, max}
use native.Mathlib.Nat.{zero-mul, suc-mul, add-mul, add-zero, add-suc, le_trans, mul-le-mul_right, max-le, le-max_left, le-max_right}
use native.Mathlib.Decide.{dec_lt}
use native.Mathlib.Numerals.{add-one}
use native.Mathlib.Omega.{arith}
use lib.Arith.{le-zero}
use lib.Dec.{leb}
use borrow.Author.Tests.{le-leb, lt-leb}
use Rattle.table.specs.Sum.{sum, greatest}

-- as a loop adds it up
pub sum-next : (n : ℕ) (f : ℕ → ℕ) → sum (n + 1) f ≡ sum n f + f n
unfolding sum
sum-next n f = rw (add-one n)

pub sum-le : (n : ℕ) {f g : ℕ → ℕ} → ((i : ℕ) → i < n → f i ≤ g i) → sum n f ≤ sum n g
unfolding sum
sum-le zero h = zero-le
sum-le (suc n) {f} {g} h =
    let rest : sum n f ≤ sum n g = sum-le n (λ i l. h i (omega arith)) in
    let last : f n ≤ g n = h n (omega arith) in
    omega arith

pub sum-ext : (n : ℕ) {f g : ℕ → ℕ} → ((i : ℕ) → i < n → f i ≡ g i) → sum n f ≡ sum n g
unfolding sum
sum-ext zero h = refl
sum-ext (suc n) {f} {g} h =
    let rest : sum n f ≡ sum n g = sum-ext n (λ i l. h i (omega arith)) in
    let last : f n ≡ g n = h n (omega arith) in
    omega arith

pub sum-zero : (n : ℕ) {f : ℕ → ℕ} → ((i : ℕ) → i < n → f i ≡ 0) → sum n f ≡ 0
unfolding sum
sum-zero zero h = refl
sum-zero (suc n) {f} h =
    let rest : sum n f ≡ 0 = sum-zero n (λ i l. h i (omega arith)) in
    let last : f n ≡ 0 = h n (omega arith) in
    omega arith

pub sum-add : (n : ℕ) (f g : ℕ → ℕ) → sum n (λ i. f i + g i) ≡ sum n f + sum n g
unfolding sum
sum-add zero f g = refl
sum-add (suc n) f g = omega (arith, sum-add n f g)

-- one term is at most the whole
pub sum-term : (n : ℕ) (f : ℕ → ℕ) (i : ℕ) → i < n → f i ≤ sum n f
unfolding sum
sum-term zero f i h = omega arith
sum-term (suc n) f i h =
    elim (dec_lt i n) [
      | yes l ↦ omega (arith, sum-term n f i l)
      | no l ↦
          let q : f i ≡ f n = ap f (omega arith) in
          omega arith
    ]

-- a term that a lesser sum leaves out fits beside it
pub sum-beside : (n : ℕ) {f g : ℕ → ℕ} → ((i : ℕ) → i < n → f i ≤ g i) → (k : ℕ) → k < n → f k ≡ 0 → sum n f + g k ≤ sum n g
unfolding sum
sum-beside zero each k l e = absurd (omega arith)
sum-beside (suc n) {f} {g} each k l e =
    let last : f n ≤ g n = each n (omega arith) in
    elim (dec_lt k n) [
      | yes h ↦ omega (arith, sum-beside n (λ i m. each i (omega arith)) k h e)
      | no h ↦
          let same : k ≡ n = omega arith in
          let rest : sum n f ≤ sum n g = sum-le n (λ i m. each i (omega arith)) in
          omega (arith, ap f same, ap g same)
    ]

-- one smaller term makes a smaller sum
pub sum_lt : (n : ℕ) {f g : ℕ → ℕ} → ((i : ℕ) → i < n → f i ≤ g i) → (i : ℕ) → i < n → f i < g i → sum n f < sum n g
unfolding sum
sum_lt zero h i l s = omega arith
sum_lt (suc n) {f} {g} h i l s =
    let last : f n ≤ g n = h n (omega arith) in
    elim (dec_lt i n) [
      | yes k ↦
          let rest : sum n f < sum n g = sum_lt n (λ x q. h x (omega arith)) i k s in
          omega arith
      | no k ↦
          let rest : sum n f ≤ sum n g = sum-le n (λ x q. h x (omega arith)) in
          let p : f i ≡ f n = ap f (omega arith) in
          let q : g i ≡ g n = ap g (omega arith) in
          omega arith
    ]

-- the order of summing does not matter
pub sum-swap : (n m : ℕ) (f : ℕ → ℕ → ℕ) → sum n (λ i. sum m (f i)) ≡ sum m (λ j. sum n (λ i. f i j))
unfolding sum
sum-swap zero m f = sym (sum-zero m (λ j l. refl))
sum-swap (suc n) m f =
    ap (λ (x : ℕ). x + sum m (f n)) (sum-swap n m f) ∙ sym (sum-add m (λ j. sum n (λ i. f i j)) (f n))

pub sum-split : (n m : ℕ) (f : ℕ → ℕ) → sum (n + m) f ≡ sum n f + sum m (λ i. f (n + i))
unfolding sum
sum-split n zero f = ap (λ (x : ℕ). sum x f) (add-zero n) ∙ sym (add-zero (sum n f))
sum-split n (suc m) f =
    let last : sum (n + suc m) f ≡ sum (suc (n + m)) f = ap (λ (x : ℕ). sum x f) (add-suc n m) in
    omega (arith, sum-split n m f)

-- a common factor
pub sum-mul : (n : ℕ) (f : ℕ → ℕ) (k : ℕ) → sum n (λ i. f i * k) ≡ sum n f * k
unfolding sum
sum-mul zero f k = sym (zero-mul k)
sum-mul (suc n) f k = omega (arith, sum-mul n f k, add-mul (sum n f) (f n) k)

-- more terms make no smaller sum
pub sum_grow : (n m : ℕ) (f : ℕ → ℕ) → n ≤ m → sum n f ≤ sum m f
unfolding sum
sum_grow n zero f h = omega (arith, ap (λ (x : ℕ). sum x f) (le-zero h))
sum_grow n (suc m) f h =
    elim (dec_lt m n) [
      | yes l ↦
          let e : n ≡ suc m = omega arith in
          omega (arith, ap (λ (x : ℕ). sum x f) e)
      | no l ↦ omega (arith, sum_grow n m f (omega arith))
    ]

-- n terms, none above K
pub sum-most : (n : ℕ) {f : ℕ → ℕ} {K : ℕ} → ((i : ℕ) → i < n → f i ≤ K) → sum n f ≤ n * K
unfolding sum
sum-most zero h = zero-le
sum-most (suc n) {f} {K} h =
    let rest : sum n f ≤ n * K = sum-most n (λ i l. h i (omega arith)) in
    let last : f n ≤ K = h n (omega arith) in
    omega (arith, suc-mul n K)

-- and so with term n of N added to those before it
pub sum_room : {N : ℕ} {f : ℕ → ℕ} {K : ℕ} (n : ℕ) → ((i : ℕ) → i < N → f i ≤ K) → n < N → sum n f + f n ≤ N * K
unfolding sum
sum_room {N} {f} {K} n each l =
    le_trans (sum-most (suc n) {f = f} (λ i k. each i (omega arith))) (mul-le-mul_right K l)

-- a sum that is not 0 has a term that is not 0
pub record SomeTerm (n : ℕ) (f : ℕ → ℕ) : Type 0 where
  pub term : ℕ
  pub within : term < n
  pub some : 0 < f term

pub some-term : (n : ℕ) (f : ℕ → ℕ) → 1 ≤ sum n f → SomeTerm n f
unfolding sum
some-term zero f h = absurd (omega arith)
some-term (suc n) f h =
    elim (dec_lt 0 (f n)) [
      | yes l ↦ record { term = n; within = omega arith; some = l }
      | no l ↦
          let earlier : SomeTerm n f = some-term n f (omega arith) in
          record { term = earlier.term; within = omega (arith, earlier.within); some = earlier.some }
    ]

-- ---- the greatest

-- as a loop finds it
pub greatest-next : (n : ℕ) (f : ℕ → ℕ) → greatest (n + 1) f ≡ max (greatest n f) (f n)
unfolding greatest
greatest-next n f = rw (add-one n)

pub greatest-ext : (n : ℕ) {f g : ℕ → ℕ} → ((i : ℕ) → i < n → f i ≡ g i) → greatest n f ≡ greatest n g
unfolding greatest
greatest-ext zero h = refl
greatest-ext (suc n) h = ap₂ max (greatest-ext n (λ i l. h i (omega arith))) (h n (omega arith))

pub greatest-term : (n : ℕ) (f : ℕ → ℕ) (i : ℕ) → i < n → f i ≤ greatest n f
unfolding greatest
greatest-term zero f i h = omega arith
greatest-term (suc n) f i h =
    elim (dec_lt i n) [
      | yes l ↦ le_trans (greatest-term n f i l) (le-max_left (greatest n f) (f n))
      | no l ↦
          let q : f i ≡ f n = ap f (omega arith) in
          omega (arith, le-max_right (greatest n f) (f n))
    ]

pub greatest-le : (n : ℕ) {f : ℕ → ℕ} {K : ℕ} → ((i : ℕ) → i < n → f i ≤ K) → greatest n f ≤ K
unfolding greatest
greatest-le zero h = zero-le
greatest-le (suc n) h = max-le (greatest-le n (λ i l. h i (omega arith))) (h n (omega arith))

-- it is 0 where the sum is
pub greatest-sum : (n : ℕ) (f : ℕ → ℕ) → greatest n f ≤ sum n f
greatest-sum n f = greatest-le n (sum-term n f)

sum-greatest : (n : ℕ) (f : ℕ → ℕ) → 1 ≤ sum n f → 1 ≤ greatest n f
sum-greatest n f h =
    let some : SomeTerm n f = some-term n f h in
    le_trans some.some (greatest-term n f some.term some.within)

pub greatest-some : (n : ℕ) (f : ℕ → ℕ) → leb 1 (greatest n f) ≡ leb 1 (sum n f)
greatest-some n f =
    elim (dec_lt 0 (sum n f)) [
      | yes some ↦ le-leb 1 (greatest n f) (sum-greatest n f some) ∙ sym (le-leb 1 (sum n f) some)
      | no none ↦ lt-leb 1 (greatest n f) (omega (arith, greatest-sum n f)) ∙ sym (lt-leb 1 (sum n f) (omega arith))
    ]
