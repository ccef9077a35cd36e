-- Bits and bytes: a byte is the number that its eight bits say, and a number that is 0 has bits that are 0.
use mathlib.Core.Path.{◌≡◌, sym, ◌∙◌}
use mathlib.Core.List.{List}
use Prim.Native.Nat.{ℕ, zero, suc, ◌+◌, ◌-◌, ◌*◌, ◌/◌, ◌%◌, ◌^◌, ◌≤◌, ◌<◌}
use native.Mathlib.Nat.{div-eq_of_lt, div-one}
use native.Mathlib.Decide.{ℕ_discrete}
use native.Mathlib.Omega.{arith}
use lib.ListN.{get_or}
use lib.Pow.{shr-shr}
use Rattle.bits.specs.Bits.{bit_at, value_at}
use Rattle.bits.proofs.Fields.{value-split, value-cut}

pub zero_bits : (image : List ℕ) (p w : ℕ) → value_at image p w ≡ 0 → (k : ℕ) → k < w → bit_at image (p + k) ≡ 0
unfolding value_at
zero_bits image p zero h k below = absurd (omega arith)
zero_bits image p (suc w) h k below =
    elim (ℕ_discrete k w) [
      | yes e ↦ rw e (omega arith)
      | no ne ↦ zero_bits image p w (omega arith) k (omega arith)
    ]

-- bit k of byte i
bit-of : (image : List ℕ) (i k : ℕ) → k < 8 → bit_at image (8 * i + k) ≡ get_or image i 0 / 2 ^ (7 - k) % 2
unfolding bit_at
bit-of image i k h =
    let byte : (8 * i + k) / 8 ≡ i = omega arith in
    let place : (8 * i + k) % 8 ≡ k = omega arith in
    rw (byte, place)

-- the first k bits of byte i
pub prefix : (image : List ℕ) (i k : ℕ) → get_or image i 0 < 256 → k ≤ 8 → value_at image (8 * i) k ≡ get_or image i 0 / 2 ^ (8 - k)
unfolding value_at
prefix image i zero h within = sym (div-eq_of_lt h)
prefix image i (suc k) h within =
    let x : ℕ = get_or image i 0 / 2 ^ (7 - k) in
    let down : 8 - suc k ≡ 7 - k = omega arith in
    let up : 8 - k ≡ 7 - k + 1 = omega arith in
    let half : get_or image i 0 / 2 ^ (8 - k) ≡ x / 2 = rw up (sym (shr-shr (get_or image i 0) (7 - k) 1)) in
    rw (down, prefix image i k h (omega arith), half, bit-of image i k (omega arith)) (omega arith)

pub byte-value : (image : List ℕ) (i : ℕ) → get_or image i 0 < 256 → value_at image (8 * i) 8 ≡ get_or image i 0
byte-value image i h = prefix image i 8 h (omega arith) ∙ div-one (get_or image i 0)

module _ (image : List ℕ) (bytes : (k : ℕ) → get_or image k 0 < 256) where
  -- a byte more
  pub next-byte : (i n : ℕ) → value_at image (8 * i) (8 * n + 8) ≡ value_at image (8 * i) (8 * n) * 256 + get_or image (i + n) 0
  next-byte i n =
      let place : 8 * i + 8 * n ≡ 8 * (i + n) = omega arith in
      rw (value-split image (8 * i) (8 * n) 8, place, byte-value image (i + n) (bytes (i + n)))

  -- a byte more, by the number that the bytes before it say
  pub byte-more : (i n : ℕ) {x b : ℕ} → x ≡ value_at image (8 * i) (8 * n) → b ≡ get_or image (i + n) 0 → x * 256 + b ≡ value_at image (8 * i) (8 * (n + 1))
  byte-more i n said is =
      let place : 8 * (n + 1) ≡ 8 * n + 8 = omega arith in
      rw (place, next-byte i n, ← said, is)

  -- the numbers that four bytes say, and five
  pub four_bytes :
      (i : ℕ)
      → value_at image (8 * i) 32
      ≡ ((get_or image i 0 * 256 + get_or image (i + 1) 0) * 256 + get_or image (i + 2) 0) * 256 + get_or image (i + 3) 0
  four_bytes i = rw (next-byte i 3, next-byte i 2, next-byte i 1, byte-value image i (bytes i))

  pub five-bytes : (i : ℕ) → value_at image (8 * i) 40 ≡ value_at image (8 * i) 32 * 256 + get_or image (i + 4) 0
  five-bytes i = next-byte i 4

  -- the number in a field, by the four bytes that it lies in, and by the five
  pub within-four :
      (i from w : ℕ) {x : ℕ}
      → x ≡ get_or image i 0 * 16777216 + get_or image (i + 1) 0 * 65536 + get_or image (i + 2) 0 * 256 + get_or image (i + 3) 0
      → from + w ≤ 32
      → x / 2 ^ (32 - from - w) % 2 ^ w ≡ value_at image (8 * i + from) w
  within-four i from w {x} four within =
      let all : x ≡ value_at image (8 * i) 32 = omega (arith, four_bytes i) in
      rw all (value-cut image (8 * i) from w 32 within)

  pub within-five :
      (i from w : ℕ) {x : ℕ}
      → x ≡ get_or image i 0 * 16777216 + get_or image (i + 1) 0 * 65536 + get_or image (i + 2) 0 * 256 + get_or image (i + 3) 0
      → from + w ≤ 40
      → (x * 256 + get_or image (i + 4) 0) / 2 ^ (40 - from - w) % 2 ^ w ≡ value_at image (8 * i + from) w
  within-five i from w {x} four within =
      let all : x * 256 + get_or image (i + 4) 0 ≡ value_at image (8 * i) 40 = omega (arith, four_bytes i, five-bytes i) in
      rw all (value-cut image (8 * i) from w 40 within)
