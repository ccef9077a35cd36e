-- The image of an accepted image's table is that image, so two accepted images with the same table are the same bytes.
use mathlib.Core.Path.{◌≡◌, refl, sym, ap, subst, ◌∙◌}
use mathlib.Core.List.{List}
use Prim.Native.Nat.{ℕ, zero, suc, ◌+◌, ◌-◌, ◌*◌, ◌≤◌, ◌<◌}
use native.Mathlib.Nat.{suc-mul, zero-mul, add-zero, zero-add}
use native.Mathlib.Decide.{dec_lt}
use native.Mathlib.Omega.{arith}
use lib.ListN.{length, get_or, get_or-eq_default}
use lib.Seq.{ext_get_or}
use Rattle.bits.specs.Bits.{bit_at, value_at, field_bits}
use Rattle.bits.proofs.Bytes.{zero_bits, byte-value}
use Rattle.table.specs.Table.{Task, transaction, no_task}
use Rattle.table.specs.Limits.{edition_width, frame_width, transactions_width, period_width, modes_width, tasks_width, offset_width, jitter_width, blocking_width, deadline_width, priority_width, time_width}
use Rattle.table.specs.Lists.{list_of, joined}
use Rattle.format.specs.Places.{edition_at, frame_at, count_at, first_at, modes_at, tasks_at, head_width, jitter_at, blocking_at, deadline_at, priority_at, times_at, time_at, task_width, task_at, past, start, bytes_to}
use Rattle.format.specs.Said.{count_in, modes_in, tasks_in, time_in, task_in, transaction_in, table_in, tasks_before}
use Rattle.format.specs.Fault.{IsAccepted}
use Rattle.table.proofs.Lists.{length-list_of, get_or-list_of, joined_same}
use Rattle.format.proofs.Said.{said-edition, said-frame, said-transactions, said-transaction}
use Rattle.format.proofs.Accepted.{SoundHead, SoundTask, time-inside, header, head, task, end}
use Rattle.format.specs.Image.{task_bits, transaction_bits, table_bits, number_of, bytes_of, image_of}
use Rattle.format.proofs.Spans.{bits_from, Span, meet, field-to, from, joined-span}

pub listed-joined {ℓ} :
    {A : Type ℓ} (n : ℕ) (f : ℕ → A) (d : A) (g : A → List ℕ)
    → joined (length (list_of n f)) (λ k. g (get_or (list_of n f) k d)) ≡ joined n (λ k. g (f k))
listed-joined n f d g = rw (length-list_of n f) (joined_same n _ _ (λ k h. ap g (get_or-list_of n f k d h)))

-- ---- the bits of the table are those of the image, field by field

module _ (image : List ℕ) where
  times-span : (m q : ℕ) → Span image (times_at q) (q + task_width m) (joined m (λ k. field_bits time_width (time_in image q k)))
  times-span m q =
      let whole : Span image (time_at q 0) (time_at q m) (joined m (λ k. field_bits time_width (time_in image q k))) =
      joined-span image m (time_at q) _ (λ k h. field-to image (time_at q k) time_width (time_at q (suc k)) (omega (arith, suc-mul k time_width))) in
      from image (add-zero (times_at q)) (omega arith) whole

  task-span : (m q : ℕ) → Span image q (q + task_width m) (task_bits (task_in image m q))
  unfolding task_bits task_in
  task-span m q =
      rw (listed-joined m (time_in image q) 0 (field_bits time_width))
      (meet image q (times_at q) (q + task_width m) _ _
      (meet image q (priority_at q) (times_at q) _ _
      (meet image q (deadline_at q) (priority_at q) _ _
      (meet image q (blocking_at q) (deadline_at q) _ _
      (meet image q (jitter_at q) (blocking_at q) _ _
      (field-to image q offset_width (jitter_at q) refl)
      (field-to image (jitter_at q) jitter_width (blocking_at q) (omega arith)))
      (field-to image (blocking_at q) blocking_width (deadline_at q) (omega arith)))
      (field-to image (deadline_at q) deadline_width (priority_at q) (omega arith)))
      (field-to image (priority_at q) priority_width (times_at q) (omega arith)))
      (times-span m q))

  tasks-span :
      (p m n : ℕ) → Span image (p + head_width) (task_at p m n) (joined n (λ j. task_bits (task_in image m (task_at p m j))))
  tasks-span p m n =
      let whole : Span image (task_at p m 0) (task_at p m n) (joined n (λ j. task_bits (task_in image m (task_at p m j)))) =
      joined-span image n (task_at p m) _
      (λ j h. from image refl (omega (arith, suc-mul j (task_width m))) (task-span m (task_at p m j))) in
      from image (omega (arith, zero-mul (task_width m))) refl whole

  transaction-span : (p : ℕ) → Span image p (past image p) (transaction_bits (transaction_in image p))
  unfolding transaction_bits transaction_in past
  transaction-span p =
      let m = modes_in image p in
      let n = tasks_in image p in
      let tasks : ℕ → Task = λ j. task_in image m (task_at p m j) in
      rw (listed-joined n tasks no_task task_bits, length-list_of n tasks)
      (meet image p (p + head_width) (task_at p m n) _ _
      (meet image p (tasks_at p) (p + head_width) _ _
      (meet image p (modes_at p) (tasks_at p) _ _
      (field-to image p period_width (modes_at p) refl)
      (field-to image (modes_at p) modes_width (tasks_at p) (omega arith)))
      (field-to image (tasks_at p) tasks_width (p + head_width) (omega arith)))
      (tasks-span p m n))

  table-span : Span image 0 (start image (count_in image)) (table_bits (table_in image))
  unfolding table_bits start
  table-span =
      let n = count_in image in
      let same : joined n (λ u. transaction_bits (transaction (table_in image) u)) ≡ joined n (λ u. transaction_bits (transaction_in image (start image u))) =
      joined_same n _ _ (λ u h. ap transaction_bits (said-transaction image u h)) in
      rw (said-transactions image, same, said-edition image, said-frame image)
      (meet image 0 first_at (start image n) _ _
      (meet image 0 count_at first_at _ _
      (meet image 0 frame_at count_at _ _
      (field-to image edition_at edition_width frame_at refl)
      (field-to image frame_at frame_width count_at refl))
      (field-to image count_at transactions_width first_at refl))
      (joined-span image n (start image) _ (λ u h. transaction-span (start image u))))

-- ---- bits as bytes

pub number_same : (f g : ℕ → ℕ) (w : ℕ) → ((k : ℕ) → k < w → f k ≡ g k) → number_of f w ≡ number_of g w
unfolding number_of
number_same f g zero same = refl
number_same f g (suc w) same = rw (number_same f g w (λ k h. same k (omega arith)), same w (omega arith))

pub value-number : (image : List ℕ) (p w : ℕ) → value_at image p w ≡ number_of (λ k. bit_at image (p + k)) w
unfolding number_of value_at
value-number image p zero = refl
value-number image p (suc w) = rw (value-number image p w)

-- every element of the list is a byte
pub record AreBytes (image : List ℕ) : Type 0 where
  pub below : (i : ℕ) → get_or image i 0 < 256

-- an image whose last byte is 0 from bit n on
module _ (image : List ℕ) (n : ℕ) (padding : value_at image n (8 * bytes_to n - n) ≡ 0) where
  length-bits : length (bits_from image 0 n) ≡ n
  unfolding bits_from
  length-bits = length-list_of n _

  bit-back : (p : ℕ) → p < 8 * bytes_to n → get_or (bits_from image 0 n) p 0 ≡ bit_at image p
  unfolding bits_from
  bit-back p h =
      elim (dec_lt p n) [
        | yes l ↦ get_or-list_of n (λ k. bit_at image (0 + k)) p 0 l ∙ ap (bit_at image) (zero-add p)
        | no l ↦
            let there : n + (p - n) ≡ p = omega arith in
            get_or-eq_default (bits_from image 0 n) 0 (rw length-bits (omega arith))
            ∙ sym (rw there at (zero_bits image n (8 * bytes_to n - n) padding (p - n) (omega arith)))
      ]

  byte-back :
      AreBytes image → (i : ℕ) → i < bytes_to n → number_of (λ k. get_or (bits_from image 0 n) (8 * i + k) 0) 8 ≡ get_or image i 0
  byte-back bytes i h =
      number_same _ (λ k. bit_at image (8 * i + k)) 8 (λ k below. bit-back (8 * i + k) (omega arith))
      ∙ sym (value-number image (8 * i) 8)
      ∙ byte-value image i (bytes.below i)

  length-bytes : length (bytes_of (bits_from image 0 n)) ≡ bytes_to n
  unfolding bytes_of
  length-bytes = length-list_of (bytes_to (length (bits_from image 0 n))) _ ∙ ap bytes_to length-bits

  bytes_back : AreBytes image → length image ≡ bytes_to n → bytes_of (bits_from image 0 n) ≡ image
  unfolding bytes_of
  bytes_back bytes long =
      ext_get_or 0 (bytes_of (bits_from image 0 n)) image (length-bytes ∙ sym long)
      (λ i h.
      let within : i < bytes_to n = rw length-bytes at h in
      get_or-list_of (bytes_to (length (bits_from image 0 n))) (λ j. number_of (λ k. get_or (bits_from image 0 n) (8 * j + k) 0) 8) i 0
      (rw length-bits within)
      ∙ byte-back bytes i within)

-- ---- accepted images

module _ (image : List ℕ) (ok : IsAccepted image) where
  -- the last time of the last task ends where the padding starts
  last-inside : start image (count_in image) ≤ 8 * length image
  unfolding start past
  last-inside =
      let u : ℕ = count_in image - 1 in
      let p = start image u in
      let below : u < count_in image = omega (arith, (header image ok).some) in
      let sound : SoundHead image (tasks_before image u) p = head image ok u below in
      let m = modes_in image p in
      let n = tasks_in image p in
      let j : ℕ = n - 1 in
      let last : SoundTask image m (task_at p m j) = task image ok u j below (omega (arith, sound.some_task)) in
      let here : suc u ≡ count_in image = omega (arith, (header image ok).some) in
      let one_more : suc j ≡ n = omega (arith, sound.some_task) in
      let ends : n * task_width m ≡ j * task_width m + task_width m =
      ap (λ (k : ℕ). k * task_width m) (sym one_more) ∙ suc-mul j (task_width m) in
      let reached : start image (suc u) ≤ 8 * length image =
      omega (arith, time-inside image m (task_at p m j) (m - 1) last (omega (arith, sound.some_mode)), ends, sound.some_mode) in
      subst (λ (k : ℕ). start image k ≤ 8 * length image) here reached

  whole-bytes : length image ≡ bytes_to (start image (count_in image))
  whole-bytes = omega (arith, (end image ok).last, last-inside)

  -- the image of an accepted image's table is that image
  pub round : AreBytes image → image_of (table_in image) ≡ image
  unfolding image_of
  round bytes =
      let span = table-span image in
      let to : span.count ≡ start image (count_in image) = sym (zero-add span.count) ∙ span.to in
      ap bytes_of (span.bits ∙ ap (bits_from image 0) to)
      ∙ bytes_back image (start image (count_in image)) (end image ok).padding bytes whole-bytes

-- two accepted images with the same table are the same bytes
pub same_bytes :
    (one two : List ℕ)
    → AreBytes one
    → AreBytes two
    → IsAccepted one
    → IsAccepted two
    → table_in one ≡ table_in two
    → one ≡ two
same_bytes one two bytes_one bytes-two ok-one ok-two same =
    sym (round one ok-one bytes_one) ∙ ap image_of same ∙ round two ok-two bytes-two
