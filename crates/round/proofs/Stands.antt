-- A list stands among bits at a position: so do its parts, and a field that does is read back as its number.
use mathlib.Core.Path.{◌≡◌, ap, ◌∙◌}
use mathlib.Core.List.{List, [], ◌∷◌, ◌++◌, append-nil}
use Prim.Native.Nat.{ℕ, zero, suc, ◌+◌, ◌*◌, ◌/◌, ◌%◌, ◌^◌, ◌≤◌, ◌<◌}
use native.Mathlib.Nat.{zero-add, add_assoc, pow-suc}
use native.Mathlib.Omega.{arith}
use lib.ListN.{length, get_or, length-append, get_or-append}
use lib.Seq.{get_or-append-add, get_or_at}
use Rattle.bits.specs.Bits.{value_at, field_bits}
use Rattle.table.specs.Lists.{joined}
use Rattle.table.proofs.Lists.{joined-grows, get_or-joined}
use Rattle.format.specs.Places.{bytes_to}
use Rattle.format.specs.Image.{number_of, bytes_of}
use Rattle.format.proofs.Round.{number_same}
use Rattle.round.proofs.Bits.{AreBits, value_in}
use Rattle.bits.proofs.Put.{length-field}

pub record Stands (bits : List ℕ) (p : ℕ) (l : List ℕ) : Type 0 where
  pub each : (k : ℕ) → k < length l → get_or bits (p + k) 0 ≡ get_or l k 0
  pub inside : p + length l ≤ length bits

pub all-stand : (bits : List ℕ) → Stands bits 0 bits
all-stand bits = record { each = λ k h. ap (λ (i : ℕ). get_or bits i 0) (zero-add k); inside = omega arith }

module _ {bits : List ℕ} {p : ℕ} where
  module _ (l k : List ℕ) (s : Stands bits p (l ++ k)) where
    pub first_part : Stands bits p l
    first_part =
        record {
          each = λ i h. s.each i (omega (arith, length-append l k)) ∙ get_or-append l k 0 i h;
          inside = omega (arith, s.inside, length-append l k);
        }

    pub second-part : Stands bits (p + length l) k
    second-part =
        record {
          each =
              λ i h.
              ap (λ (j : ℕ). get_or bits j 0) (add_assoc p (length l) i)
              ∙ s.each (length l + i) (omega (arith, length-append l k))
              ∙ get_or-append-add l k i 0;
          inside = omega (arith, s.inside, length-append l k);
        }

  pub joined-part : (n u : ℕ) (f : ℕ → List ℕ) → u < n → Stands bits p (joined n f) → Stands bits (p + length (joined u f)) (f u)
  unfolding joined
  joined-part n u f h s =
      let room : length (joined u f) + length (f u) ≤ length (joined n f) =
      omega (arith, length-append (joined u f) (f u), joined-grows (suc u) n f h) in
      record {
        each =
            λ i l.
            ap (λ (j : ℕ). get_or bits j 0) (add_assoc p (length (joined u f)) i)
            ∙ s.each (length (joined u f) + i) (omega arith)
            ∙ get_or-joined n u i f h l;
        inside = omega (arith, s.inside);
      }

-- three fields and what follows them

abbrev pub three : (u v w a b c : ℕ) → List ℕ
three u v w a b c = field_bits u a ++ field_bits v b ++ field_bits w c

module _ {bits : List ℕ} {p : ℕ} (u v w a b c : ℕ) (rest : List ℕ) (s : Stands bits p (three u v w a b c ++ rest)) where
  front : Stands bits p (field_bits u a ++ field_bits v b)
  front = first_part (field_bits u a ++ field_bits v b) (field_bits w c) (first_part (three u v w a b c) rest s)

  pub first_of : Stands bits p (field_bits u a)
  first_of = first_part (field_bits u a) (field_bits v b) front

  pub second-of : Stands bits (p + u) (field_bits v b)
  second-of = rw (length-field u a) at (second-part (field_bits u a) (field_bits v b) front)

  pub third_of : Stands bits (p + (u + v)) (field_bits w c)
  third_of =
      simp (length-append, length-field) at
      (second-part (field_bits u a ++ field_bits v b) (field_bits w c) (first_part (three u v w a b c) rest s))

  pub rest_of : Stands bits (p + (u + v + w)) rest
  rest_of = simp (length-append, length-field) at (second-part (three u v w a b c) rest s)

-- the bits of a number that fits say that number
field-number : (w v : ℕ) → v < 2 ^ w → number_of (λ k. get_or (field_bits w v) k 0) w ≡ v
unfolding field_bits number_of
field-number zero v h = omega arith
field-number (suc w) v h =
    let half : v / 2 < 2 ^ w = omega (arith, rw pow-suc at h) in
    let front : number_of (λ k. get_or (field_bits (suc w) v) k 0) w ≡ v / 2 =
    number_same _ _ w (λ k below. get_or-append (field_bits w (v / 2)) (v % 2 ∷ []) 0 k (rw (length-field w (v / 2)) below))
    ∙ field-number w (v / 2) half in
    let last : get_or (field_bits (suc w) v) w 0 ≡ v % 2 = get_or_at (field_bits w (v / 2)) (v % 2) [] 0 w (length-field w (v / 2)) in
    omega arith

pub field_back : (bits : List ℕ) → AreBits bits → (p w v : ℕ) → v < 2 ^ w → Stands bits p (field_bits w v) → value_at (bytes_of bits) p w ≡ v
field_back bits are p w v fits s =
    let inside : p + w ≤ 8 * bytes_to (length bits) = omega (arith, s.inside, length-field w v) in
    (rw (append-nil (bytes_of bits)) at (value_in bits [] are p w inside))
    ∙ number_same _ _ w (λ k below. s.each k (rw (length-field w v) below))
    ∙ field-number w v fits
