-- Bits and the bytes that hold them: a byte's bits are those that it was made of.
use mathlib.Core.Path.{◌≡◌, sym, ap, ◌∙◌}
use mathlib.Core.List.{List, [], ◌∷◌, ◌++◌, append-nil}
use Prim.Native.Nat.{ℕ, zero, suc, ◌+◌, ◌-◌, ◌*◌, ◌/◌, ◌%◌, ◌^◌, ◌≤◌, ◌<◌}
use native.Mathlib.Nat.{zero-add, zero-mul, add-zero, add-suc, div-one, mul-one, pow-suc, mul_assoc}
use native.Mathlib.Decide.{dec_lt}
use native.Mathlib.Omega.{arith}
use lib.Pow.{shr-shr}
use lib.ListN.{length, get_or, get_or-append, get_or-eq_default}
use lib.Seq.{get_or-append-add}
use Rattle.bits.specs.Bits.{bit_at, value_at, field_bits}
use Rattle.table.specs.Table.{Task, Transaction, Table}
use Rattle.table.specs.Limits.{edition_width, frame_width, transactions_width, period_width, modes_width, tasks_width, offset_width, jitter_width, blocking_width, deadline_width, priority_width, time_width}
use Rattle.table.specs.Lists.{joined}
use Rattle.table.proofs.Lists.{length-list_of, get_or-list_of}
use Rattle.format.specs.Places.{bytes_to}
use Rattle.format.specs.Image.{task_bits, transaction_bits, table_bits, number_of, bytes_of, image_of}
use Rattle.format.proofs.Round.{number_same, value-number}

-- every element of the list is a bit
pub record AreBits (l : List ℕ) : Type 0 where
  pub below : (i : ℕ) → get_or l i 0 < 2

-- ---- the number that bits say

module _ (f : ℕ → ℕ) where
  -- its first k bits, where m follow
  number-front : ((k : ℕ) → f k < 2) → (k m : ℕ) → number_of f (k + m) / 2 ^ m ≡ number_of f k
  unfolding number_of
  number-front bits k zero = rw (add-zero k) (div-one (number_of f k))
  number-front bits k (suc m) =
      let half : number_of f (k + suc m) / 2 ≡ number_of f (k + m) = rw (add-suc k m) (omega (arith, bits (k + m))) in
      let step : number_of f (k + suc m) / 2 ^ suc m ≡ number_of f (k + suc m) / 2 / 2 ^ m = rw (shr-shr (number_of f (k + suc m)) 1 m) (ap (λ (i : ℕ). number_of f (k + suc m) / 2 ^ i) (omega arith)) in
      step ∙ rw half (number-front bits k m)

  -- m zeros follow
  pub number-zeros : (k m : ℕ) → ((i : ℕ) → k ≤ i → f i ≡ 0) → number_of f (k + m) ≡ number_of f k * 2 ^ m
  unfolding number_of
  number-zeros k zero none = rw (add-zero k) (sym (mul-one (number_of f k)))
  number-zeros k (suc m) none =
      rw (add-suc k m, number_of, number-zeros k m none, none (k + m) (omega arith), pow-suc) (omega (arith, mul_assoc (number_of f k) (2 ^ m) 2))

  -- bit k of a byte
  number_bit : ((k : ℕ) → f k < 2) → (k : ℕ) → k < 8 → number_of f 8 / 2 ^ (7 - k) % 2 ≡ f k
  unfolding number_of
  number_bit bits k h =
      let whole : suc k + (7 - k) ≡ 8 = omega arith in
      let front : number_of f 8 / 2 ^ (7 - k) ≡ number_of f (suc k) = rw whole at (number-front bits (suc k) (7 - k)) in
      rw front (omega (arith, bits k))

-- ---- bits as bytes

module _ (l : List ℕ) where
  pub length-bytes : length (bytes_of l) ≡ bytes_to (length l)
  unfolding bytes_of
  length-bytes = length-list_of (bytes_to (length l)) _

  pub byte_at : (i : ℕ) → i < bytes_to (length l) → get_or (bytes_of l) i 0 ≡ number_of (λ k. get_or l (8 * i + k) 0) 8
  unfolding bytes_of
  byte_at i h = get_or-list_of (bytes_to (length l)) (λ j. number_of (λ k. get_or l (8 * j + k) 0) 8) i 0 h

  -- the bytes say the bits that they were made of and zeros behind them, also where other bytes follow
  bit_in : (rest : List ℕ) → AreBits l → (p : ℕ) → p < 8 * bytes_to (length l) → bit_at (bytes_of l ++ rest) p ≡ get_or l p 0
  unfolding bit_at
  bit_in rest bits p h =
      let i : ℕ = p / 8 in
      let k : ℕ = p % 8 in
      let within : i < bytes_to (length l) = omega arith in
      let here : 8 * i + k ≡ p = omega arith in
      let byte : get_or (bytes_of l ++ rest) i 0 ≡ number_of (λ j. get_or l (8 * i + j) 0) 8 =
      get_or-append (bytes_of l) rest 0 i (rw length-bytes within) ∙ byte_at i within in
      rw byte (number_bit (λ j. get_or l (8 * i + j) 0) (λ j. bits.below (8 * i + j)) k (omega arith))
      ∙ ap (λ (j : ℕ). get_or l j 0) here

  pub value_in :
      (rest : List ℕ)
      → AreBits l
      → (p w : ℕ)
      → p + w ≤ 8 * bytes_to (length l)
      → value_at (bytes_of l ++ rest) p w ≡ number_of (λ k. get_or l (p + k) 0) w
  value_in rest bits p w h =
      value-number (bytes_of l ++ rest) p w
      ∙ number_same _ _ w (λ k below. bit_in rest bits (p + k) (omega arith))

  pub padding-in : AreBits l → value_at (bytes_of l) (length l) (8 * bytes_to (length l) - length l) ≡ 0
  unfolding number_of
  padding-in bits =
      let w : ℕ = 8 * bytes_to (length l) - length l in
      let f : ℕ → ℕ = λ k. get_or l (length l + k) 0 in
      let none : number_of f (0 + w) ≡ 0 * 2 ^ w = number-zeros f 0 w (λ k h. get_or-eq_default l 0 (omega arith)) in
      (rw (append-nil (bytes_of l)) at (value_in [] bits (length l) w (omega arith))) ∙ (rw (zero-add w, zero-mul (2 ^ w)) at none)

-- ---- which lists are bits

pub no_bits : AreBits []
no_bits = record { below = λ i. omega arith }

pub bits-append : (l k : List ℕ) → AreBits l → AreBits k → AreBits (l ++ k)
bits-append l k first second = record { below = each }
  where
    each : (i : ℕ) → get_or (l ++ k) i 0 < 2
    each i =
        elim (dec_lt i (length l)) [
          | yes h ↦ rw (get_or-append l k 0 i h) (first.below i)
          | no h ↦
              let there : length l + (i - length l) ≡ i = omega arith in
              let same : get_or (l ++ k) i 0 ≡ get_or k (i - length l) 0 =
              ap (λ (j : ℕ). get_or (l ++ k) j 0) (sym there) ∙ get_or-append-add l k (i - length l) 0 in
              rw same (second.below (i - length l))
        ]

pub bit-alone : (b : ℕ) → b < 2 → AreBits (b ∷ [])
bit-alone b h = record { below = each }
  where
    each : (i : ℕ) → get_or (b ∷ []) i 0 < 2
    each zero = h
    each (suc i) = omega arith

field-bits : (w v : ℕ) → AreBits (field_bits w v)
unfolding field_bits
field-bits zero v = no_bits
field-bits (suc w) v = bits-append (field_bits w (v / 2)) (v % 2 ∷ []) (field-bits w (v / 2)) (bit-alone (v % 2) (omega arith))

joined-bits : (n : ℕ) (f : ℕ → List ℕ) → ((k : ℕ) → AreBits (f k)) → AreBits (joined n f)
unfolding joined
joined-bits zero f each = no_bits
joined-bits (suc n) f each = bits-append (joined n f) (f n) (joined-bits n f each) (each n)

task-bits : (t : Task) → AreBits (task_bits t)
unfolding task_bits
task-bits t =
    bits-append _ _
    (bits-append _ _
    (bits-append _ _
    (bits-append _ _ (bits-append _ _ (field-bits offset_width _) (field-bits jitter_width _)) (field-bits blocking_width _))
    (field-bits deadline_width _))
    (field-bits priority_width _))
    (joined-bits _ _ (λ m. field-bits time_width _))

transaction-bits : (x : Transaction) → AreBits (transaction_bits x)
unfolding transaction_bits
transaction-bits x =
    bits-append _ _
    (bits-append _ _ (bits-append _ _ (field-bits period_width _) (field-bits modes_width _)) (field-bits tasks_width _))
    (joined-bits _ _ (λ j. task-bits _))

pub table-bits : (tab : Table) → AreBits (table_bits tab)
unfolding table_bits
table-bits tab =
    bits-append _ _
    (bits-append _ _ (bits-append _ _ (field-bits edition_width _) (field-bits frame_width _)) (field-bits transactions_width _))
    (joined-bits _ _ (λ u. transaction-bits _))

pub image-length : (tab : Table) → length (image_of tab) ≡ bytes_to (length (table_bits tab))
unfolding image_of
image-length tab = length-bytes (table_bits tab)
