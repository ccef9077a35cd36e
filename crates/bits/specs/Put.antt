-- Bits put into bytes, front to back: what stands before them stays, and what stands behind them in their last byte is 0.
use Rattle.std.specs.Prelude.{List, [], ◌∷◌, ℕ, suc, ◌+◌, ◌-◌, ◌*◌, ◌/◌, ◌%◌, ◌^◌, set}
use Rattle.bits.specs.Bits.{value_at}

-- the bytes with b as bit p: the bits before it in its byte stay, those behind it are 0; past the end nothing changes
unfoldable pub bit_put : List ℕ → (p b : ℕ) → List ℕ
bit_put bytes p b = set bytes (p / 8) ((2 * value_at bytes (8 * (p / 8)) (p % 8) + b) * 2 ^ (7 - p % 8))

-- the bytes with those bits from p on
unfoldable pub bits_put : List ℕ → (p : ℕ) → List ℕ → List ℕ
bits_put bytes p [] = bytes
bits_put bytes p (b ∷ l) = bits_put (bit_put bytes p b) (suc p) l
