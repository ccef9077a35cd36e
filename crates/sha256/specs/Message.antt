-- FIPS 180-4, sections 5.1.1 and 5.2.1: a message of bytes, padded, and the words that it is parsed into.
use Rattle.std.specs.Prelude.{◌≡◌, ℕ, zero, suc, ◌+◌, ◌-◌, ◌*◌, ◌/◌, ◌%◌, ◌^◌, List, [], ◌∷◌, ◌++◌, length, replicate, slice_index, refl}

-- the k lowest bytes of a number, the most significant first
unfoldable pub bytes_of : ℕ → ℕ → List ℕ
bytes_of zero l = []
bytes_of (suc k) l = l / 2 ^ (8 * k) % 256 ∷ bytes_of k l

-- how many bytes 0 follow the bit 1 and its seven bits 0 behind n bytes: the fewest that leave eight bytes of a block of 64
unfoldable pub zeros : ℕ → ℕ
zeros n = (55 + 64 - n % 64) % 64

-- the message, a bit 1, bits 0, and in 64 bits how many bits the message has: modulo 2 ^ 64, where the standard has no sum
unfoldable pub padded : List ℕ → List ℕ
padded bytes = bytes ++ (128 ∷ replicate (zeros (length bytes)) 0 ++ bytes_of 8 (8 * length bytes))

-- word j of the padded message, its first byte the most significant: M_t of block i is word 16 i + t
unfoldable pub word_of : List ℕ → ℕ → ℕ
word_of p j = ((slice_index p (4 * j) * 256 + slice_index p (4 * j + 1)) * 256 + slice_index p (4 * j + 2)) * 256 + slice_index p (4 * j + 3)

-- "abc", the standard's example: 24 bits, then 1, then 423 bits 0, then 24 in 64 bits
abc : padded (97 ∷ 98 ∷ 99 ∷ []) ≡ 97 ∷ 98 ∷ 99 ∷ 128 ∷ replicate 52 0 ++ (0 ∷ 0 ∷ 0 ∷ 0 ∷ 0 ∷ 0 ∷ 0 ∷ 24 ∷ [])
unfolding padded zeros bytes_of
abc = refl

-- a message of 56 bytes leaves no room for its length in its block
edges : zeros 0 ∷ zeros 55 ∷ zeros 56 ∷ zeros 63 ∷ zeros 64 ∷ [] ≡ 55 ∷ 0 ∷ 63 ∷ 56 ∷ 55 ∷ []
unfolding zeros
edges = refl

-- its first word and its last
parsed : word_of (padded (97 ∷ 98 ∷ 99 ∷ [])) 0 ∷ word_of (padded (97 ∷ 98 ∷ 99 ∷ [])) 15 ∷ [] ≡ 0x6162_6380 ∷ 0x18 ∷ []
unfolding word_of padded zeros bytes_of
parsed = refl
