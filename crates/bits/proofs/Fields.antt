-- Laws of fields, over any image, any position and any width: the range of a field, fields that follow one
-- another, a field within a wider one, and the number that a field is answered with.
use mathlib.Core.Path.{◌≡◌, sym}
use mathlib.Core.List.{List}
use mathlib.Core.Bool.{Bool, true, false, ◌&&◌}
use Prim.Native.Nat.{ℕ, zero, suc, ◌+◌, ◌-◌, ◌*◌, ◌/◌, ◌%◌, ◌^◌, ◌<◌, ◌≤◌}
use native.Mathlib.Nat.{mod-lt, lt_of_lt_of_le, add-zero, add-suc, add_assoc, mul-one, pow-suc, mul_assoc}
use native.Mathlib.Omega.{arith}
use lib.Dec.{lit<, leb}
use lib.Pow.{high, low, pow_mono}
use Rattle.std.specs.Prelude.{Ok, Err, if◌then◌else◌}
use Rattle.bits.specs.Bits.{widest, bit_at, value_at, is_inside, field_at}
use Rattle.bits.specs.declared.NoField.TheVariants.{Ends, NoWidth}

pub bit_below : (image : List ℕ) (p : ℕ) → bit_at image p < 2
unfolding bit_at
bit_below image p = mod-lt _ (lit< tt)

-- a field of w bits is below 2 ^ w
pub value-below : (image : List ℕ) (p w : ℕ) → value_at image p w < 2 ^ w
unfolding value_at
value-below image p zero = lit< tt
value-below image p (suc w) = rw pow-suc (omega (arith, value-below image p w, bit_below image (p + w)))

-- a field of v + w bits is one of v bits and the one of w bits that follows it
pub value-split : (image : List ℕ) (p v w : ℕ) → value_at image p (v + w) ≡ value_at image p v * 2 ^ w + value_at image (p + v) w
unfolding value_at
value-split image p v zero = rw (add-zero, add-zero, mul-one)
value-split image p v (suc w) = rw (add-suc, value-split image p v w, pow-suc, add_assoc p v w) (omega (arith, mul_assoc (value_at image p v) (2 ^ w) 2))

-- a field of w bits within a wider one, v bits behind its start and r bits before its end
pub value-within : (image : List ℕ) (p v w r : ℕ) → value_at image (p + v) w ≡ value_at image p (v + w + r) / 2 ^ r % 2 ^ w
value-within image p v w r =
    sym
    (rw (value-split image p (v + w) r, high (value_at image p (v + w)) r (value-below image (p + (v + w)) r), value-split image p v w)
    (low (value_at image p v) w (value-below image (p + v) w)))

-- the same by the bits of the wider one, n of them
pub value-cut : (image : List ℕ) (p v w n : ℕ) → v + w ≤ n → value_at image p n / 2 ^ (n - v - w) % 2 ^ w ≡ value_at image (p + v) w
value-cut image p v w n within =
    let whole : v + w + (n - v - w) ≡ n = omega arith in
    sym (rw whole at (value-within image p v w (n - v - w)))

-- the number that a field is answered with is that of its bits
pub number-of-field : (image : List ℕ) (p w : ℕ) {v : ℕ} → field_at image p w ≡ Ok v → v ≡ value_at image p w
unfolding field_at
number-of-field image p w {v} answered = of-tests (leb 1 w && leb w widest) (is_inside image p w) answered
  where
    of-tests :
        (s t : Bool)
        → (if s then (if t then Ok (value_at image p w) else Err Ends) else Err NoWidth) ≡ Ok v
        → v ≡ value_at image p w
    of-tests true true h = cc
    of-tests true false h = cc
    of-tests false t h = cc

-- the number of less than five bytes is below 2 ^ 32
pub few-bytes-below : (image : List ℕ) (p n : ℕ) {x : ℕ} → n < 5 → x ≡ value_at image p (8 * n) → x < 2 ^ 32
few-bytes-below image p n few said = rw said (lt_of_lt_of_le (value-below image p (8 * n)) (pow_mono {j = 32} (omega arith)))

-- the number in a field, by that of the bytes that it has bits in
pub of-bytes :
    (image : List ℕ) (p w n : ℕ) {x : ℕ}
    → n ≡ (p % 8 + w + 7) / 8
    → x ≡ value_at image (8 * (p / 8)) (8 * n)
    → x / 2 ^ (8 * ((p % 8 + w + 7) / 8) - (p % 8 + w)) % 2 ^ w ≡ value_at image p w
of-bytes image p w n {x} all said =
    let bits : 8 * ((p % 8 + w + 7) / 8) - (p % 8 + w) ≡ 8 * n - p % 8 - w = omega arith in
    let place : 8 * (p / 8) + p % 8 ≡ p = omega arith in
    rw (said, bits) (rw place at (value-cut image (8 * (p / 8)) (p % 8) w (8 * n) (omega arith)))
