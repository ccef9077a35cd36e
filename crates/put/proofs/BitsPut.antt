-- Bits that are put a byte at a time: a field's next bits behind its first, and bits within one byte, which are one store.
use mathlib.Core.Path.{◌≡◌, refl, sym, ap, ◌∙◌}
use mathlib.Core.List.{List, [], ◌∷◌}
use Prim.Native.Nat.{ℕ, zero, suc, ◌+◌, ◌-◌, ◌*◌, ◌/◌, ◌%◌, ◌^◌, ◌≤◌, ◌<◌}
use native.Mathlib.Nat.{add-zero, add-suc, mod-one, mod-lt, mod-eq_of_lt, lt_of_lt_of_le, mul-one, mul_assoc, pow-suc}
use native.Mathlib.Decide.{dec_lt}
use native.Mathlib.Numerals.{add-one}
use native.Mathlib.Omega.{arith}
use lib.ListN.{length, get_or, set}
use lib.Seq.{set-set, set_out, get_or-set_same}
use lib.Arith.{digits_lt}
use lib.Pow.{shr-shr, shl_lt, shl-shr, shr_lt, mod-pow-add, pow_pos, pow-add, pow_mono}
use Rattle.bits.specs.Bits.{value_at, field_bits}
use Rattle.bits.specs.Put.{bit_put, bits_put}
use Rattle.bits.proofs.Fields.{value-below}
use Rattle.bits.proofs.Bytes.{prefix}
use Rattle.bits.proofs.Put.{put-append, length-field, field-split}

-- of a field of w bits its last t, put at the place q where those before them end
pub put_last :
    (bytes : List ℕ) (p done t v : ℕ) {q w : ℕ} → q ≡ p + done → w ≡ done + t
    → bits_put (bits_put bytes p (field_bits done (v / 2 ^ t))) q (field_bits t v) ≡ bits_put bytes p (field_bits w v)
put_last bytes p done t v place all = rw (place, all, field-split done t v, put-append bytes p (field_bits done (v / 2 ^ t)) (field_bits t v), length-field)

-- of a field that has rest bits to come, the next t
pub put_next :
    (bytes : List ℕ) (p done t rest v : ℕ) {q w : ℕ} → q ≡ p + done → w ≡ done + t → t ≤ rest
    → bits_put (bits_put bytes p (field_bits done (v / 2 ^ rest))) q (field_bits t (v / 2 ^ (rest - t))) ≡ bits_put bytes p (field_bits w (v / 2 ^ (rest - t)))
put_next bytes p done t rest v place all within =
    let whole : rest ≡ rest - t + t = omega arith in
    let above : v / 2 ^ rest ≡ v / 2 ^ (rest - t) / 2 ^ t = ap (λ (k : ℕ). v / 2 ^ k) whole ∙ sym (shr-shr v (rest - t) t) in
    rw above (put_last bytes p done t (v / 2 ^ (rest - t)) place all)

-- what a byte holds is of no account once it is stored anew
store-over : (bytes : List ℕ) (i from : ℕ) (l : List ℕ) (x : ℕ) → from + length l ≤ 8 → set (bits_put bytes (8 * i + from) l) i x ≡ set bytes i x
unfolding bits_put bit_put
store-over bytes i from [] x within = refl
store-over bytes i from (b ∷ l) x within =
    let byte : (8 * i + from) / 8 ≡ i = omega arith in
    rw (← add-suc (8 * i) from, store-over (bit_put bytes (8 * i + from) b) i (suc from) l x (omega arith), byte) (set-set bytes i _ x)

-- k bits at a byte's head, and zeros behind them, are a byte
pub head-below : (n k : ℕ) → n < 2 ^ k → k ≤ 8 → n * 2 ^ (8 - k) < 256
head-below n k below within =
    let whole : k + (8 - k) ≡ 8 = omega arith in
    rw whole at (shl_lt k (8 - k) below)

head_of : (bytes : List ℕ) (i n k : ℕ) → i < length bytes → n < 2 ^ k → k ≤ 8 → value_at (set bytes i (n * 2 ^ (8 - k))) (8 * i) k ≡ n
head_of bytes i n k there below within =
    let stored : get_or (set bytes i (n * 2 ^ (8 - k))) i 0 ≡ n * 2 ^ (8 - k) = get_or-set_same bytes i _ 0 there in
    prefix _ i k (rw stored (head-below n k below within)) within ∙ rw stored (shl-shr n (8 - k))

-- the bits within a byte, but for the last, and then the last: one store
last_bit :
    (bytes : List ℕ) (i from t v : ℕ) → from + suc t ≤ 8
    → bits_put bytes (8 * i + from) (field_bits (suc t) v) ≡ set bytes i ((2 * value_at (bits_put bytes (8 * i + from) (field_bits t (v / 2))) (8 * i) (from + t) + v % 2) * 2 ^ (8 - (from + suc t)))
unfolding bits_put bit_put field_bits
last_bit bytes i from t v within =
    let byte : (8 * i + from + t) / 8 ≡ i = omega arith in
    let place : (8 * i + from + t) % 8 ≡ from + t = omega arith in
    let behind : 8 - (from + suc t) ≡ 7 - (from + t) = omega arith in
    put-append bytes (8 * i + from) (field_bits t (v / 2)) (v % 2 ∷ [])
    ∙ rw (length-field, byte, place, behind) (store-over bytes i from (field_bits t (v / 2)) _ (rw length-field (omega arith)))

-- n bits and then t of a number's, doubled for its next
doubled : (n v t : ℕ) → 2 * (n * 2 ^ t + v / 2 % 2 ^ t) + v % 2 ≡ n * 2 ^ suc t + v % 2 ^ suc t
doubled n v t =
    let high : n * 2 ^ suc t ≡ n * 2 ^ t * 2 = rw pow-suc (sym (mul_assoc n (2 ^ t) 2)) in
    let low : v % 2 ^ suc t ≡ v / 2 % 2 ^ t * 2 + v % 2 = rw add-one at (mod-pow-add v t 1) in
    omega arith

-- what a byte begins with once bits are put into it
head-value :
    (bytes : List ℕ) (i from t v : ℕ) → i < length bytes → from + t ≤ 8
    → value_at (bits_put bytes (8 * i + from) (field_bits t v)) (8 * i) (from + t) ≡ value_at bytes (8 * i) from * 2 ^ t + v % 2 ^ t
unfolding bits_put field_bits
head-value bytes i from zero v there within = rw (add-zero, mul-one, mod-one, add-zero)
head-value bytes i from (suc t) v there within =
    let before = bits_put bytes (8 * i + from) (field_bits t (v / 2)) in
    rw (
      last_bit bytes i from t v within,
      head_of bytes i (2 * value_at before (8 * i) (from + t) + v % 2) (from + suc t) there (rw (add-suc, pow-suc) (omega (arith, value-below before (8 * i) (from + t)))) within,
      head-value bytes i from t (v / 2) there (omega arith),
    )
    (doubled (value_at bytes (8 * i) from) v t)

-- bits within one byte are one store: what stands before them, then they, then zeros
pub put-in-byte :
    (bytes : List ℕ) (i from t v : ℕ) → 0 < t → from + t ≤ 8
    → bits_put bytes (8 * i + from) (field_bits t v) ≡ set bytes i ((value_at bytes (8 * i) from * 2 ^ t + v % 2 ^ t) * 2 ^ (8 - (from + t)))
put-in-byte bytes i from zero v some within = absurd (omega arith)
put-in-byte bytes i from (suc t) v some within =
    last_bit bytes i from t v within
    ∙ elim (dec_lt i (length bytes)) [
      | yes there ↦ rw (head-value bytes i from t (v / 2) there (omega arith), doubled (value_at bytes (8 * i) from) v t)
      | no past ↦ set_out bytes i _ (omega arith) ∙ sym (set_out bytes i _ (omega arith))
    ]

-- eight bits at a byte's head are the byte, whatever it held
pub put-whole-byte : (bytes : List ℕ) (i v : ℕ) → bits_put bytes (8 * i) (field_bits 8 v) ≡ set bytes i (v % 256)
unfolding value_at
put-whole-byte bytes i v = rw add-zero at (put-in-byte bytes i 0 8 v (omega arith) (omega arith)) ∙ ap (set bytes i) (omega arith)

-- a byte's first bits and then t of a number's
bits-below : (byte from t v : ℕ) → byte < 256 → from + t ≤ 8 → byte / 2 ^ (8 - from) * 2 ^ t + v % 2 ^ t < 2 ^ (from + t)
bits-below byte from t v small within =
    let whole : 8 ≡ from + (8 - from) = omega arith in
    let eight : byte < 2 ^ (from + (8 - from)) = rw (← whole) small in
    rw (pow-add 2 from t) (digits_lt (shr_lt from (8 - from) eight) (mod-lt v (pow_pos t)))

-- with zeros behind them they are a byte
pub joined-below :
    (byte from t v : ℕ) → byte < 256 → from + t ≤ 8
    → (byte / 2 ^ (8 - from) * 2 ^ t + v % 2 ^ t) * 2 ^ (8 - (from + t)) < 256
joined-below byte from t v small within = head-below _ (from + t) (bits-below byte from t v small within) within

-- and 32 bits lose none of them
pub joined-exact :
    (byte from t v : ℕ) → byte < 256 → from + t ≤ 8
    → (byte / 2 ^ (8 - from) * 2 ^ t % 2 ^ 32 + v % (1 * 2 ^ t % 2 ^ 32)) * 2 ^ (8 - (from + t)) % 2 ^ 32
    ≡ (byte / 2 ^ (8 - from) * 2 ^ t + v % 2 ^ t) * 2 ^ (8 - (from + t))
joined-exact byte from t v small within =
    let room : 2 ^ t ≤ 2 ^ 8 = pow_mono {j = 8} (omega arith) in
    let bits : byte / 2 ^ (8 - from) * 2 ^ t + v % 2 ^ t < 2 ^ 8 = lt_of_lt_of_le (bits-below byte from t v small within) (pow_mono {j = 8} within) in
    let one : 1 * 2 ^ t % 2 ^ 32 ≡ 2 ^ t = omega arith in
    let before : byte / 2 ^ (8 - from) * 2 ^ t % 2 ^ 32 ≡ byte / 2 ^ (8 - from) * 2 ^ t = mod-eq_of_lt (omega arith) in
    rw (one, before) (mod-eq_of_lt (omega (arith, joined-below byte from t v small within)))
