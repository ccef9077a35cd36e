-- Worked fields of document 01's last image: the most significant bit comes first, a field may begin and end inside a
-- byte, and each answer that is no number.
use mathlib.Core.Path.{◌≡◌, refl}
use mathlib.Core.List.{List, [], ◌∷◌}
use Prim.Native.Nat.{ℕ, ◌^◌}
use Rattle.bits.specs.Bits.{bit_at, value_at, field_bits, field_at}
use Rattle.bits.specs.Put.{bit_put, bits_put}
use Rattle.std.specs.Prelude.{Ok, Err}
use Rattle.bits.specs.declared.NoField.TheVariants.{Ends, NoWidth}

abbrev start : List ℕ
start = 0x10 ∷ 0x00 ∷ 0x00 ∷ 0xA0 ∷ 0x40 ∷ []

edition : value_at start 0 4 ≡ 1
unfolding value_at bit_at
edition = refl

frame : value_at start 4 24 ≡ 10
unfolding value_at bit_at
frame = refl

transactions : field_at start 28 6 ≡ Ok 1
unfolding field_at value_at bit_at
transactions = refl

to_the_end : field_at start 8 32 ≡ Ok 0xA040
unfolding field_at value_at bit_at
to_the_end = refl

one-bit-more : field_at start 9 32 ≡ Err Ends
unfolding field_at value_at bit_at
one-bit-more = refl

behind-the-end : field_at [] 0 1 ≡ Err Ends
unfolding field_at value_at bit_at
behind-the-end = refl

-- bit 33 is the image's last 1: the bits past the end say 0 after it
past_the_end : value_at start 33 10 ≡ 2 ^ 9
unfolding value_at bit_at
past_the_end = refl

too_wide : field_at start 0 33 ≡ Err NoWidth
unfolding field_at value_at bit_at
too_wide = refl

no_bits : field_at start 0 0 ≡ Err NoWidth
unfolding field_at value_at bit_at
no_bits = refl

most-significant-first : field_bits 4 2 ≡ 0 ∷ 0 ∷ 1 ∷ 0 ∷ []
unfolding field_bits
most-significant-first = refl

-- three bits across a byte's edge: what stands before them stays, what stands behind them in their byte is cleared
across : bits_put (0xFF ∷ 0xFF ∷ 0xFF ∷ []) 6 (field_bits 3 1) ≡ 0xFC ∷ 0x80 ∷ 0xFF ∷ []
unfolding bits_put bit_put field_bits value_at bit_at
across = refl
