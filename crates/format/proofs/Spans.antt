-- Spans: a list is the bits of an image from one position up to another. Spans that meet are joined, and a field's bits
-- are a span. (The computed cases are brought in so that they are checked first.)
use mathlib.Core.Path.{◌≡◌, refl, sym}
use mathlib.Core.List.{List, [], ◌∷◌, ◌++◌, append-nil, append_assoc}
use Prim.Native.Nat.{ℕ, zero, suc, ◌+◌, ◌*◌, ◌/◌, ◌%◌, ◌<◌}
use native.Mathlib.Nat.{add-zero, add-suc, add_assoc}
use native.Mathlib.Omega.{arith}
use Rattle.bits.specs.Bits.{bit_at, value_at, field_bits}
use Rattle.bits.proofs.Fields.{bit_below}
use Rattle.table.specs.Lists.{list_of, joined}
use Rattle.table.proofs.Lists.{list_of-next}
use Rattle.format.specs.ImageCases

-- the n bits from p
unfoldable pub bits_from : List ℕ → ℕ → ℕ → List ℕ
bits_from image p n = list_of n (λ k. bit_at image (p + k))

pub record Span (image : List ℕ) (p q : ℕ) (l : List ℕ) : Type 0 where
  pub count : ℕ
  pub to : p + count ≡ q
  pub bits : l ≡ bits_from image p count

next_bit : (image : List ℕ) (p n : ℕ) → bits_from image p (suc n) ≡ bits_from image p n ++ (bit_at image (p + n) ∷ [])
unfolding bits_from
next_bit image p n = list_of-next n (λ k. bit_at image (p + k))

no_bits : (image : List ℕ) (p : ℕ) → bits_from image p 0 ≡ []
unfolding bits_from list_of
no_bits image p = refl

bits-more : (image : List ℕ) (p m n : ℕ) → bits_from image p (m + n) ≡ bits_from image p m ++ bits_from image (p + m) n
bits-more image p m zero = rw (add-zero m, no_bits image (p + m)) (sym (append-nil (bits_from image p m)))
bits-more image p m (suc n) =
    rw (add-suc m n, next_bit image p (m + n), next_bit image (p + m) n, bits-more image p m n, add_assoc p m n)
    (append_assoc (bits_from image p m) (bits_from image (p + m) n) (bit_at image (p + (m + n)) ∷ []))

-- halving a number takes off its last bit
field-bits : (image : List ℕ) (p w : ℕ) → field_bits w (value_at image p w) ≡ bits_from image p w
unfolding field_bits value_at
field-bits image p zero = sym (no_bits image p)
field-bits image p (suc w) =
    let x : ℕ = value_at image p w in
    let b : ℕ = bit_at image (p + w) in
    let half : (2 * x + b) / 2 ≡ x = omega (arith, bit_below image (p + w)) in
    let last : (2 * x + b) % 2 ≡ b = omega (arith, bit_below image (p + w)) in
    rw (half, last, field-bits image p w) (sym (next_bit image p w))

module _ (image : List ℕ) where
  pub meet : (p q r : ℕ) (l k : List ℕ) → Span image p q l → Span image q r k → Span image p r (l ++ k)
  meet p q r l k s t =
      record {
        count = s.count + t.count;
        to = omega arith;
        bits = rw (s.bits, t.bits, bits-more image p s.count t.count, s.to);
      }

  pub field-to : (p w q : ℕ) → p + w ≡ q → Span image p q (field_bits w (value_at image p w))
  field-to p w q e = record { count = w; to = e; bits = field-bits image p w }

  -- the same span between positions that are written otherwise
  pub from : {p q r s : ℕ} {l : List ℕ} → p ≡ r → q ≡ s → Span image p q l → Span image r s l
  from {l = l} e f span = rw (← e, ← f) span

  pub joined-span :
      (n : ℕ) (at : ℕ → ℕ) (f : ℕ → List ℕ)
      → ((k : ℕ) → k < n → Span image (at k) (at (suc k)) (f k))
      → Span image (at 0) (at n) (joined n f)
  unfolding joined
  joined-span zero at f each = record { count = 0; to = add-zero (at 0); bits = sym (no_bits image (at 0)) }
  joined-span (suc n) at f each =
      meet (at 0) (at n) (at (suc n)) (joined n f) (f n) (joined-span n at f (λ k h. each k (omega arith))) (each n (omega arith))
