-- Laws of bits that are put: lists put one behind the other, how many there are, and a field in two parts.
use mathlib.Core.Path.{◌≡◌, refl, ap, ◌∙◌}
use mathlib.Core.List.{List, [], ◌∷◌, ◌++◌, append_assoc, append-nil}
use Prim.Native.Nat.{ℕ, zero, suc, ◌+◌, ◌/◌, ◌^◌}
use native.Mathlib.Nat.{add-zero, add-suc, suc-add, div-one}
use native.Mathlib.Numerals.{one-add}
use native.Mathlib.Omega.{arith}
use lib.ListN.{length, length-append, length-set}
use lib.Pow.{shr-shr}
use Rattle.bits.specs.Bits.{field_bits}
use Rattle.bits.specs.Put.{bit_put, bits_put}
use Rattle.bits.proofs.Cases

-- two lists of bits put together are the second put behind the first
pub put-append : (bytes : List ℕ) (p : ℕ) (xs ys : List ℕ) → bits_put bytes p (xs ++ ys) ≡ bits_put (bits_put bytes p xs) (p + length xs) ys
unfolding bits_put
put-append bytes p [] ys = rw add-zero
put-append bytes p (x ∷ xs) ys = rw (add-suc, ← suc-add p (length xs)) (put-append (bit_put bytes p x) (suc p) xs ys)

-- the bytes stay as many as they are
pub length-put : (bytes : List ℕ) (p : ℕ) (l : List ℕ) → length (bits_put bytes p l) ≡ length bytes
unfolding bits_put bit_put
length-put bytes p [] = refl
length-put bytes p (b ∷ l) = length-put (bit_put bytes p b) (suc p) l ∙ length-set bytes _ _

pub length-field : (w v : ℕ) → length (field_bits w v) ≡ w
unfolding field_bits
length-field zero v = refl
length-field (suc w) v = rw (length-append, length-field w (v / 2)) (omega arith)

-- a field of a + c bits is the one of a bits that says what the number says above its c lowest bits, and then those c
pub field-split : (a c v : ℕ) → field_bits (a + c) v ≡ field_bits a (v / 2 ^ c) ++ field_bits c v
unfolding field_bits
field-split a zero v = rw (add-zero, div-one, append-nil)
field-split a (suc c) v =
    let down : v / 2 / 2 ^ c ≡ v / 2 ^ suc c = shr-shr v 1 c ∙ ap (λ (k : ℕ). v / 2 ^ k) (one-add c) in
    rw (add-suc, field_bits, field-split a c (v / 2), append_assoc, down)
