-- Fields of an image, a list of bytes: packed most significant bit first, with no gaps.
use Rattle.std.specs.Prelude.{List, [], ◌∷◌, ◌++◌, Bool, ◌&&◌, ℕ, zero, suc, ◌+◌, ◌-◌, ◌*◌, ◌/◌, ◌%◌, ◌^◌, length, get_or, leb, if◌then◌else◌, Result, Ok, Err}
use Rattle.bits.specs.declared.NoField.{NoField}
use Rattle.bits.specs.declared.NoField.TheVariants.{Ends, NoWidth}

-- the widest field, in bits
abbrev pub widest : ℕ
widest = 32

-- bit p of the image; 0 past its end
unfoldable pub bit_at : List ℕ → ℕ → ℕ
bit_at image p = get_or image (p / 8) 0 / 2 ^ (7 - p % 8) % 2

-- the number that the w bits from p say
unfoldable pub value_at : List ℕ → ℕ → ℕ → ℕ
value_at image p zero = 0
value_at image p (suc w) = 2 * value_at image p w + bit_at image (p + w)

-- the w lowest bits of v, the most significant first
unfoldable pub field_bits : ℕ → ℕ → List ℕ
field_bits zero v = []
field_bits (suc w) v = field_bits w (v / 2) ++ (v % 2 ∷ [])

-- the w bits from p lie in the image
abbrev pub is_inside : List ℕ → ℕ → ℕ → Bool
is_inside image p w = leb (p + w) (8 * length image)

-- the field of w bits at p
unfoldable pub field_at : List ℕ → ℕ → ℕ → Result ℕ NoField
field_at image p w =
    if leb 1 w && leb w widest
    then (if is_inside image p w then Ok (value_at image p w) else Err Ends)
    else Err NoWidth
