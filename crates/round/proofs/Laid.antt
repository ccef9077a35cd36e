-- Bits that are put into bytes front to back, from the first on, make the bytes of those bits; the bytes behind them stay.
use mathlib.Core.Path.{◌≡◌, sym, ap, ◌∙◌}
use mathlib.Core.List.{List, [], ◌∷◌, ◌++◌, append_assoc, append-nil}
use Prim.Native.Nat.{ℕ, suc, ◌+◌, ◌-◌, ◌*◌, ◌/◌, ◌%◌, ◌^◌, ◌≤◌, ◌<◌}
use native.Mathlib.Decide.{dec_lt, ℕ_discrete}
use native.Mathlib.Omega.{arith}
use lib.ListN.{length, get_or, drop, length-append, length-drop, length-set, get_or-append, get_or-eq_default}
use lib.Seq.{ext_get_or, get_or-append-add, get_or-append_seam, get_or-set_same, get_or-set_other, get_or-drop}
use Rattle.bits.specs.Bits.{value_at}
use Rattle.bits.specs.Put.{bit_put, bits_put}
use Rattle.table.specs.Table.{Table}
use Rattle.table.specs.Lists.{list_of}
use Rattle.format.specs.Places.{bytes_to}
use Rattle.format.specs.Image.{table_bits, number_of, bytes_of, image_of}
use Rattle.format.proofs.Round.{number_same}
use Rattle.round.proofs.Bits.{AreBits, number-zeros, length-bytes, byte_at, value_in, no_bits, bits-append, bit-alone, table-bits, image-length}

module _ (before : List ℕ) where
  -- the bytes once those bits are put
  abbrev over : List ℕ → List ℕ
  over l = bytes_of l ++ drop (bytes_to (length l)) before

  module _ (l : List ℕ) (room : bytes_to (length l) ≤ length before) where
    length_over : length (over l) ≡ length before
    length_over = rw (length-append, length-bytes l, length-drop) (omega arith)

    -- behind the bits
    over-behind : (i : ℕ) → bytes_to (length l) ≤ i → get_or (over l) i 0 ≡ get_or before i 0
    over-behind i h =
        let n : ℕ = bytes_to (length l) in
        let there : length (bytes_of l) + (i - n) ≡ i = rw (length-bytes l) (omega arith) in
        let same : n + (i - n) ≡ i = omega arith in
        ap (λ (k : ℕ). get_or (over l) k 0) (sym there)
        ∙ get_or-append-add (bytes_of l) (drop n before) (i - n) 0
        ∙ get_or-drop n before (i - n) 0
        ∙ ap (λ (k : ℕ). get_or before k 0) same

    over-front : (i : ℕ) → i < bytes_to (length l) → get_or (over l) i 0 ≡ number_of (λ k. get_or l (8 * i + k) 0) 8
    over-front i h = get_or-append (bytes_of l) _ 0 i (rw (length-bytes l) h) ∙ byte_at l i h

  -- one bit more
  module _ (l : List ℕ) (b : ℕ) (bits : AreBits l) (room : bytes_to (length l + 1) ≤ length before) where
    abbrev more : List ℕ
    more = l ++ (b ∷ [])

    length_more : length more ≡ length l + 1
    length_more = length-append l (b ∷ [])

    abbrev room-more : bytes_to (length more) ≤ length before
    room-more = rw length_more room

    bit-more : (k : ℕ) → k < length l → get_or more k 0 ≡ get_or l k 0
    bit-more k h = get_or-append l (b ∷ []) 0 k h

    abbrev at : ℕ
    at = length l / 8

    -- the byte that the bit is put into
    here : number_of (λ k. get_or more (8 * at + k) 0) 8 ≡ (2 * value_at (over l) (8 * at) (length l % 8) + b) * 2 ^ (7 - length l % 8)
    unfolding number_of
    here =
        let r : ℕ = length l % 8 in
        let f : ℕ → ℕ = λ k. get_or more (8 * at + k) 0 in
        let whole : suc r + (7 - r) ≡ 8 = omega arith in
        let last : 8 * at + r ≡ length l = omega arith in
        let padded : number_of f 8 ≡ number_of f (suc r) * 2 ^ (7 - r) =
        rw whole at (number-zeros f (suc r) (7 - r) (λ i h. get_or-eq_default more 0 (rw length_more (omega arith)))) in
        let front : number_of f r ≡ value_at (over l) (8 * at) r =
        number_same f _ r (λ k h. bit-more (8 * at + k) (omega arith))
        ∙ sym (value_in l (drop (bytes_to (length l)) before) bits (8 * at) r (omega arith)) in
        let bit : f r ≡ b = ap (λ (k : ℕ). get_or more k 0) last ∙ get_or-append_seam l b [] 0 in
        padded ∙ rw (front, bit)

    put_next : bit_put (over l) (length l) b ≡ over more
    unfolding bit_put
    put_next = ext_get_or 0 (bit_put (over l) (length l) b) (over more) long each
      where
        roomy : bytes_to (length l) ≤ length before
        roomy = omega arith

        long : length (bit_put (over l) (length l) b) ≡ length (over more)
        long = length-set (over l) at _ ∙ length_over l roomy ∙ sym (length_over more room-more)

        each : (i : ℕ) → i < length (bit_put (over l) (length l) b) → get_or (bit_put (over l) (length l) b) i 0 ≡ get_or (over more) i 0
        each i h =
            elim (ℕ_discrete i at) [
              | yes e ↦
                  rw e
                  (get_or-set_same (over l) at _ 0 (rw (length_over l roomy) (omega arith))
                  ∙ sym (over-front more room-more at (rw length_more (omega arith)) ∙ here))
              | no ne ↦
                  get_or-set_other (over l) at i _ 0 ne
                  ∙ elim (dec_lt i at) [
                    | yes below ↦
                        over-front l roomy i (omega arith)
                        ∙ number_same _ _ 8 (λ k within. sym (bit-more (8 * i + k) (omega arith)))
                        ∙ sym (over-front more room-more i (rw length_more (omega arith)))
                    | no above ↦ over-behind l roomy i (omega arith) ∙ sym (over-behind more room-more i (rw length_more (omega arith)))
                  ]
            ]

  -- the rest of the bits, behind those that are put
  put_rest :
      (l k : List ℕ) → AreBits l → AreBits k → bytes_to (length l + length k) ≤ length before → bits_put (over l) (length l) k ≡ over (l ++ k)
  unfolding bits_put
  put_rest l [] bits rest room = rw (append-nil l)
  put_rest l (b ∷ k) bits rest room =
      let bit : AreBits (b ∷ []) = bit-alone b (rest.below 0) in
      let step : bit_put (over l) (length l) b ≡ over (l ++ (b ∷ [])) = put_next l b bits (omega arith) in
      let next : suc (length l) ≡ length (l ++ (b ∷ [])) = omega (arith, length-append l (b ∷ [])) in
      let again = put_rest (l ++ (b ∷ [])) k (bits-append l (b ∷ []) bits bit) (record { below = λ i. rest.below (suc i) }) (rw (← next) (omega arith)) in
      rw (step, next) again ∙ ap over (append_assoc l (b ∷ []) k)

  pub laid : (l : List ℕ) → AreBits l → bytes_to (length l) ≤ length before → bits_put before 0 l ≡ bytes_of l ++ drop (bytes_to (length l)) before
  unfolding bytes_of list_of
  laid l bits room = put_rest [] l no_bits bits (omega arith)

  -- a table's bits make its image
  pub image-laid : (tab : Table) → length (image_of tab) ≤ length before → bits_put before 0 (table_bits tab) ≡ image_of tab ++ drop (length (image_of tab)) before
  unfolding image_of
  image-laid tab room =
      rw (image-length tab) (laid (table_bits tab) (table-bits tab) (rw (image-length tab) at room))
