-- The signed numbers of the walk in a machine word: a small one is read back from its bits as it is, the sizes of sums and
-- multiples, and the counts that a test of signs decides.
use mathlib.Core.Path.{◌≡◌, refl, sym}
use lib.IntN.{ℤ, pos, negsuc, neg_ℤ, sub_ℕ, nat_abs, ◌+ℤ◌, ◌-ℤ◌, ◌*ℤ◌}
use lib.Signed.{mag, non_neg}
use lib.Dec.{T}
use Prim.Native.Nat.{ℕ, zero, suc, ◌+◌, ◌-◌, ◌*◌, ◌/◌, ◌%◌, ◌≤◌, ◌<◌, ◌^◌, min, max}
use native.Mathlib.Nat.{le_refl, mul-le-mul, add-mul}
use native.Mathlib.Omega.{arith}
use mir.Syntax.{w64}
use mir.Val.{SFits, to_z, of_z}
use mir.Facts.{to_z-of_z, to_z_pos}
use Rattle.std.specs.Int.{int_max, div_ceil}
use Rattle.std.proofs.lemmas.Grind.{div_ceil_times}
use Rattle.std.proofs.lemmas.Int.{ints, clamps}
use Rattle.std.proofs.Math.Nat.{div-eq_of_lt-le}
use Rattle.periods.specs.Phase.{ceil}
use Rattle.periods.proofs.Difference.{Diff, subℕ-diff}
use Rattle.analysis.specs.Choice.{count}

-- ---- numbers in a word

pub small : {z : ℤ} → mag z < 2 ^ 62 → SFits w64 z
small h = record { sfits = omega arith }

pub back : (z : ℤ) → mag z < 2 ^ 62 → to_z w64 (of_z w64 z) ≡ z
back z h = to_z-of_z {w = w64} {z = z} (small h)

pub unsigned : (n : ℕ) → n < 2 ^ 62 → to_z w64 n ≡ pos n
unsigned n h = to_z_pos w64 (omega arith)

-- ---- sizes

pub mag-diff : (z : ℤ) (a b : ℕ) → Diff z a b → mag z ≤ max a b
mag-diff (pos n) a b d = omega arith
mag-diff (negsuc n) a b d = omega arith

pub mag-add : (y z : ℤ) → mag (y +ℤ z) ≤ suc (mag y + mag z)
mag-add (pos a) (pos b) = omega arith
mag-add (pos a) (negsuc b) = omega (arith, mag-diff (sub_ℕ a (suc b)) a (suc b) (subℕ-diff a (suc b)))
mag-add (negsuc a) (pos b) = omega (arith, mag-diff (sub_ℕ b (suc a)) b (suc a) (subℕ-diff b (suc a)))
mag-add (negsuc a) (negsuc b) = omega arith

-- what is added to a − b lies between
pub mag-shift : (z : ℤ) (a b n : ℕ) → Diff z a b → mag (z +ℤ pos n) ≤ max (a + n) b
mag-shift (pos k) a b n d = omega arith
mag-shift (negsuc k) a b n d = omega (arith, mag-diff (sub_ℕ n (suc k)) n (suc k) (subℕ-diff n (suc k)))

mag-neg : (z : ℤ) → mag (neg_ℤ z) ≤ suc (mag z)
mag-neg (pos zero) = omega arith
mag-neg (pos (suc n)) = omega arith
mag-neg (negsuc n) = omega arith

pub mag-sub : (y z : ℤ) → mag (y -ℤ z) ≤ 2 + mag y + mag z
mag-sub y z = omega (arith, mag-add y (neg_ℤ z), mag-neg z)

pub mag-mul : (z : ℤ) (t : ℕ) → mag (z *ℤ pos t) ≤ suc (mag z) * t
mag-mul (pos n) t = omega arith
mag-mul (negsuc n) t = below (suc n * t)
  where
    below : (k : ℕ) → mag (neg_ℤ (pos k)) ≤ k
    below zero = omega arith
    below (suc k) = omega arith

-- an arrival, F + (p − 1)·T, of numbers in range
module _ (T F : ℕ) (p : ℤ) (period : T < 2 ^ 24) (phase : F < 2 ^ 24) (near : mag p < 2 ^ 26) where
  pub before_small : mag (p -ℤ pos 1) < 2 ^ 27
  before_small = omega (arith, mag-sub p (pos 1))

  pub since-small : mag ((p -ℤ pos 1) *ℤ pos T) ≤ 2 ^ 51
  since-small =
      let most : suc (mag (p -ℤ pos 1)) * T ≤ 2 ^ 51 = mul-le-mul {n₂ = 2 ^ 27} {m₂ = 2 ^ 24} before_small (omega arith) in
      omega (arith, mag-mul (p -ℤ pos 1) T)

  pub arrival-small : mag (pos F +ℤ (p -ℤ pos 1) *ℤ pos T) < 2 ^ 52
  arrival-small = omega (arith, since-small, mag-add (pos F) ((p -ℤ pos 1) *ℤ pos T))

-- ---- counts

pub count-abs : (z : ℤ) → T (non_neg z) → nat_abs z ≡ count z
unfolding count
count-abs (pos n) h = refl
count-abs (negsuc n) h = absurd h

count-mag : (z : ℤ) → count z ≤ mag z
unfolding count
count-mag (pos n) = le_refl n
count-mag (negsuc n) = omega arith

-- the times C of the jobs to p: there are at most 2^28 of them
pub times-le : (p f : ℤ) (C : ℕ) → mag p < 2 ^ 26 → mag f < 2 ^ 26 → C < 2 ^ 24 → count (p -ℤ f +ℤ pos 1) * C ≤ 2 ^ 52
times-le p f C hp hf hc =
    let few : count (p -ℤ f +ℤ pos 1) ≤ 2 ^ 28 = omega (arith, count-mag (p -ℤ f +ℤ pos 1), mag-add (p -ℤ f) (pos 1), mag-sub p f) in
    mul-le-mul {n₂ = 2 ^ 28} {m₂ = 2 ^ 24} few (omega arith)

-- R − O + a in words, where it is not below 0
pub completes-word : (R O : ℕ) (a : ℤ) → R < 2 ^ 32 → O < 2 ^ 24 → mag a < 2 ^ 52 → T (non_neg (pos R -ℤ pos O +ℤ a)) → nat_abs (to_z w64 (of_z w64 (to_z w64 (of_z w64 (to_z w64 R -ℤ to_z w64 O)) +ℤ to_z w64 (of_z w64 a)))) ≡ count (pos R -ℤ pos O +ℤ a)
completes-word R O a r o l up =
    let word : to_z w64 (of_z w64 (to_z w64 (of_z w64 (to_z w64 R -ℤ to_z w64 O)) +ℤ to_z w64 (of_z w64 a))) ≡ pos R -ℤ pos O +ℤ a = omega (arith, ints) in
    rw word (count-abs (pos R -ℤ pos O +ℤ a) up)

-- what is cut at 0
cut-count : (z : ℤ) {r : ℤ} → r ≡ int_max z (pos 0) → mag r < 2 ^ 63 → nat_abs (to_z w64 (of_z w64 r)) ≡ count z
unfolding count
cut-count (pos n) {r} m s =
    let cut : r ≡ pos n = omega (arith, ints, clamps, m) in
    rw (to_z-of_z {w = w64} {z = r} (record { sfits = s }), cut) refl
cut-count (negsuc n) {r} m s =
    let cut : r ≡ pos 0 = omega (arith, ints, clamps, m) in
    rw cut refl

-- p − f + 1 in words, cut at 0
pub jobs-word : (p f : ℤ) {r : ℤ} → mag p < 2 ^ 26 → mag f < 2 ^ 26 → r ≡ int_max (to_z w64 (of_z w64 (to_z w64 (of_z w64 (to_z w64 (of_z w64 p) -ℤ to_z w64 (of_z w64 f))) +ℤ pos 1))) (pos 0) → mag r < 2 ^ 63 → nat_abs (to_z w64 (of_z w64 r)) ≡ count (p -ℤ f +ℤ pos 1)
jobs-word p f hp hf m s =
    let word : to_z w64 (of_z w64 (to_z w64 (of_z w64 (to_z w64 (of_z w64 p) -ℤ to_z w64 (of_z w64 f))) +ℤ pos 1)) ≡ p -ℤ f +ℤ pos 1 = omega (arith, ints) in
    cut-count (p -ℤ f +ℤ pos 1) (rw word at m) s

-- w − a + O in words, cut at 0
pub response-word : (w O : ℕ) (a : ℤ) {r : ℤ} → w < 2 ^ 24 → O < 2 ^ 24 → mag a < 2 ^ 52 → r ≡ int_max (to_z w64 (of_z w64 (to_z w64 (of_z w64 (to_z w64 w -ℤ to_z w64 (of_z w64 a))) +ℤ to_z w64 O))) (pos 0) → mag r < 2 ^ 63 → nat_abs (to_z w64 (of_z w64 r)) ≡ count (pos w -ℤ a +ℤ pos O)
response-word w O a hw ho ha m s =
    let word : to_z w64 (of_z w64 (to_z w64 (of_z w64 (to_z w64 w -ℤ to_z w64 (of_z w64 a))) +ℤ to_z w64 O)) ≡ pos w -ℤ a +ℤ pos O = omega (arith, ints) in
    cut-count (pos w -ℤ a +ℤ pos O) (rw word at m) s

-- s / T, rounded up, is the library's
pub div_ceil-is : (s T : ℕ) → 0 < T → div_ceil s T ≡ ceil s T
unfolding ceil
div_ceil-is s T h = let (l, r) = div_ceil_times s T h in sym (div-eq_of_lt-le T {m = s + (T - 1)} (omega (arith, l, r)) (omega (arith, l, r, add-mul (s / T + min 1 (s % T)) 1 T)))
