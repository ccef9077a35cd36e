-- FIPS 180-4, sections 3.2 and 4.1.2: operations on words of 32 bits, each a number below 2 ^ 32.
use Rattle.std.specs.Prelude.{◌≡◌, ℕ, ◌+◌, ◌-◌, ◌*◌, ◌/◌, ◌%◌, ◌^◌, [], ◌∷◌, bit_and, bit_or, bit_xor, refl}

infixl 60 ◌⊞◌
infixl 50 ◌⊕◌
-- addition modulo 2 ^ 32
abbrev pub ◌⊞◌ : ℕ → ℕ → ℕ
x ⊞ y = (x + y) % 2 ^ 32

-- the bitwise exclusive or
abbrev pub ◌⊕◌ : ℕ → ℕ → ℕ
x ⊕ y = bit_xor x y

-- the bitwise complement, ¬x
abbrev pub complement : ℕ → ℕ
complement x = 2 ^ 32 - 1 - x

-- SHR n (x), the right shift
abbrev pub shr : ℕ → ℕ → ℕ
shr n x = x / 2 ^ n

-- x << n, the left shift, which drops the leftmost n bits
abbrev pub shl : ℕ → ℕ → ℕ
shl n x = x * 2 ^ n % 2 ^ 32

-- ROTR n (x), the rotation to the right, for n from 1 to 31: (x >> n) ∨ (x << 32 - n)
unfoldable pub rotr : ℕ → ℕ → ℕ
rotr n x = bit_or (shr n x) (shl (32 - n) x)

-- Ch (x, y, z): (x ∧ y) ⊕ (¬x ∧ z)
unfoldable pub Ch : ℕ → ℕ → ℕ → ℕ
Ch x y z = bit_and x y ⊕ bit_and (complement x) z

-- Maj (x, y, z): (x ∧ y) ⊕ (x ∧ z) ⊕ (y ∧ z)
unfoldable pub Maj : ℕ → ℕ → ℕ → ℕ
Maj x y z = bit_and x y ⊕ bit_and x z ⊕ bit_and y z

-- the standard's Σ0 and Σ1, which mix the bits of a working variable
unfoldable pub Σ0 : ℕ → ℕ
Σ0 x = rotr 2 x ⊕ rotr 13 x ⊕ rotr 22 x

unfoldable pub Σ1 : ℕ → ℕ
Σ1 x = rotr 6 x ⊕ rotr 11 x ⊕ rotr 25 x

-- its σ0 and σ1, which mix the bits of a word of the message schedule
unfoldable pub σ0 : ℕ → ℕ
σ0 x = rotr 7 x ⊕ rotr 18 x ⊕ shr 3 x

unfoldable pub σ1 : ℕ → ℕ
σ1 x = rotr 17 x ⊕ rotr 19 x ⊕ shr 10 x

-- bit 0 goes to the top, and the four lowest bits go there together
rotated : rotr 1 1 ∷ rotr 4 0x1234_5678 ∷ rotr 31 0x8000_0001 ∷ [] ≡ 0x8000_0000 ∷ 0x8123_4567 ∷ 3 ∷ []
unfolding rotr
rotated = refl

-- x chooses y where its bit is 1 and z where it is 0; of three bits the majority is taken
chosen : Ch 0xffff_0000 0x1234_5678 0x9abc_def0 ∷ Maj 0b0000_1111 0b0011_0011 0b0101_0101 ∷ [] ≡ 0x1234_def0 ∷ 0b0001_0111 ∷ []
unfolding Ch Maj
chosen = refl

-- the bits that a 1 is spread to
spread : Σ0 1 ∷ Σ1 1 ∷ σ0 1 ∷ σ1 1 ∷ [] ≡ 0x4008_0400 ∷ 0x0420_0080 ∷ 0x0200_4000 ∷ 0x0000_a000 ∷ []
unfolding Σ0 Σ1 σ0 σ1 rotr
spread = refl

-- a shift drops the lowest bits, which a rotation keeps
shifted : σ0 8 ∷ σ1 1024 ∷ [] ≡ 0x1002_0001 ∷ 0x0280_0001 ∷ []
unfolding σ0 σ1 rotr
shifted = refl
