-- What stands beyond one byte more than the longest image has cannot change the first fault, so a program may cut its input
-- there: every field that is looked at lies before, and bytes follow in either case.
use mathlib.Core.Path.{◌≡◌, refl, sym, ap, ap₂, ◌∙◌}
use mathlib.Core.List.{List}
use Prim.Native.Nat.{ℕ, zero, suc, ◌+◌, ◌-◌, ◌*◌, ◌/◌, ◌%◌, ◌^◌, ◌≤◌, ◌<◌}
use native.Mathlib.Decide.{ℕ_discrete, dec_le}
use native.Mathlib.Omega.{arith}
use lib.ListN.{length, take}
use lib.Dec.{eqb}
use lib.Seq.{length-take-le, take_all, get_or-take}
use borrow.Author.Tests.{le-leb, lt-leb}
use Rattle.refusals.specs.declared.Refusal.TheVariants.{EndsInside, PaddingSet, BytesFollow}
use Rattle.refusals.specs.Answer.{Answer, accepted, ◌then◌, found_of, first_of, checked}
use Rattle.refusals.proofs.Findings.{then_same, first-same}
use Rattle.bits.specs.Bits.{bit_at, value_at}
use Rattle.table.specs.Sum.{sum, greatest}
use Rattle.table.specs.Limits.{limits, transactions_most, frame_width, transactions_width, modes_width, tasks_width, time_width}
use Rattle.table.specs.Fields.{HeaderField, HeadField, width_in_header, width_in_head}
use Rattle.table.specs.Rules.{header_rules, head_rules, task_rules}
use Rattle.table.proofs.Sum.{sum-ext, greatest-ext}
use Rattle.format.specs.Places.{frame_at, count_at, modes_at, tasks_at, jitter_at, blocking_at, deadline_at, priority_at, time_at, head_width, place_in_header, place_in_head, task_width, task_at, past, start, bytes_to, longest_image}
use Rattle.format.specs.Said.{count_in, modes_in, tasks_in, tasks_before}
use Rattle.format.specs.Fault.{ends_at, look_at, header_fault, head_fault, task_fault, transaction_fault, end_fault, body_fault, image_fault}
use Rattle.format.proofs.Faults.{image-parts, body-parts, transaction-parts}
use Rattle.format.proofs.Accepted.{SoundHead, sound-header, sound-head}
use Rattle.format.proofs.Reach.{bits_most, reach-most, head-reach, task-reach, sound-before}

-- the bits that are kept
abbrev room : ℕ
room = 8 * (longest_image + 1)

module _ (image : List ℕ) (long : longest_image + 1 ≤ length image) where
  abbrev cut : List ℕ
  cut = take (longest_image + 1) image

  cut-length : length cut ≡ longest_image + 1
  cut-length = length-take-le (longest_image + 1) image long

  -- ---- one field

  same_bit : (p : ℕ) → p < room → bit_at cut p ≡ bit_at image p
  unfolding bit_at
  same_bit p h = ap (λ (b : ℕ). b / 2 ^ (7 - p % 8) % 2) (get_or-take (longest_image + 1) image (p / 8) 0 (omega arith))

  same-value : (p w : ℕ) → p + w ≤ room → value_at cut p w ≡ value_at image p w
  unfolding value_at
  same-value p zero h = refl
  same-value p (suc w) h = omega (arith, same-value p w (omega arith), same_bit (p + w) (omega arith))

  same_end : (p w : ℕ) → p + w ≤ room → ends_at cut p w ≡ ends_at image p w
  same_end p w h =
      ap (λ t. checked t EndsInside p)
      (le-leb (p + w) (8 * length cut) (omega (arith, cut-length)) ∙ sym (le-leb (p + w) (8 * length image) (omega arith)))

  same-look : {F : Type 0} (place width : F → ℕ) → ((f : F) → place f + width f ≤ room) → look_at cut place width ≡ look_at image place width
  same-look place width fits =
      λ i.
      record {
        finding = λ f. same_end (place f) (width f) (fits f) i;
        place = place;
        number = λ f. same-value (place f) (width f) (fits f) i;
      }

  -- ---- the parts

  same-header : header_fault cut ≡ header_fault image
  same-header = ap (header_rules ◌then◌ limits) (same-look place_in_header width_in_header fits)
    where
      fits : (f : HeaderField) → place_in_header f + width_in_header f ≤ room
      fits HeaderField.edition = omega arith
      fits HeaderField.frame = omega arith
      fits HeaderField.count = omega arith

  same_head : (before p : ℕ) → p + head_width ≤ room → head_fault cut before p ≡ head_fault image before p
  same_head before p h =
      ap₂ (λ major look. head_rules ◌then◌ limits major before look) (same-value frame_at frame_width (omega arith))
      (same-look (place_in_head p) width_in_head fits)
    where
      fits : (f : HeadField) → place_in_head p f + width_in_head f ≤ room
      fits HeadField.period = omega arith
      fits HeadField.modes = omega arith
      fits HeadField.tasks = omega arith

  same-task : (m q : ℕ) → q + task_width m ≤ room → task_fault cut m q ≡ task_fault image m q
  unfolding task_rules first_of
  same-task m q h =
      rw (
        same_end q 24 (omega arith),
        same_end (jitter_at q) 24 (omega arith),
        same_end (blocking_at q) 24 (omega arith),
        same_end (deadline_at q) 26 (omega arith),
        same-value (deadline_at q) 26 (omega arith),
        same_end (priority_at q) 8 (omega arith),
        ends,
        times,
        same-value q 24 (omega arith),
        greatest-time,
      )
    where
      ends : found_of ◌then◌ m (λ k. ends_at cut (time_at q k) time_width) ≡ found_of ◌then◌ m (λ k. ends_at image (time_at q k) time_width)
      ends = first-same m _ _ (λ k below so_far. same_end (time_at q k) time_width (omega arith))

      times : sum m (λ k. value_at cut (time_at q k) time_width) ≡ sum m (λ k. value_at image (time_at q k) time_width)
      times = sum-ext m (λ k below. same-value (time_at q k) time_width (omega arith))

      greatest-time : greatest m (λ k. value_at cut (time_at q k) time_width) ≡ greatest m (λ k. value_at image (time_at q k) time_width)
      greatest-time = greatest-ext m (λ k below. same-value (time_at q k) time_width (omega arith))

  -- ---- a transaction, where the heads of those before it are sound

  abbrev Sound : ℕ → Type 0
  Sound v = SoundHead image (tasks_before image v) (start image v)

  same-past : (p : ℕ) → p + head_width ≤ room → past cut p ≡ past image p
  unfolding past
  same-past p h =
      ap₂ (task_at p) (same-value (modes_at p) modes_width (omega arith)) (same-value (tasks_at p) tasks_width (omega arith))

  same_start : (u : ℕ) → u ≤ transactions_most → ((v : ℕ) → v < u → Sound v) → start cut u ≡ start image u
  unfolding start
  same_start zero h each = refl
  same_start (suc u) h each =
      let fewer : (v : ℕ) → v < u → Sound v = λ v l. each v (omega arith) in
      ap (past cut) (same_start u (omega arith) fewer)
      ∙ same-past (start image u) (omega (arith, head-reach image u h fewer))

  same-before : (u : ℕ) → u ≤ transactions_most → ((v : ℕ) → v < u → Sound v) → tasks_before cut u ≡ tasks_before image u
  unfolding tasks_before
  same-before u h each =
      sum-ext u
      (λ v below.
      let fewer : (w : ℕ) → w < v → Sound w = λ w l. each w (omega arith) in
      ap (tasks_in cut) (same_start v (omega arith) fewer)
      ∙ same-value (tasks_at (start image v)) tasks_width (omega (arith, head-reach image v (omega arith) fewer)))

  same-transaction :
      (u : ℕ)
      → u < transactions_most
      → ((v : ℕ) → v < u → Sound v)
      → transaction_fault cut (tasks_before cut u) (start cut u) ≡ transaction_fault image (tasks_before image u) (start image u)
  unfolding start
  same-transaction u h each =
      let p = start image u in
      let before = tasks_before image u in
      let near : p + head_width ≤ bits_most = head-reach image u h each in
      ap₂ (transaction_fault cut) (same-before u (omega arith) each) (same_start u (omega arith) each)
      ∙ transaction-parts cut before p
      ∙ rw (
        same_head before p (omega arith),
        same-value (tasks_at p) tasks_width (omega arith),
        same-value (modes_at p) modes_width (omega arith),
      )
      (then_same (head_fault image before p)
      (λ clear.
      let here : Sound u = sound-head image before p clear in
      let next : start image (suc u) ≤ bits_most = reach-most image (suc u) h (more here) in
      first-same (tasks_in image p) _ _
      (λ j within so_far. same-task (modes_in image p) (task_at p (modes_in image p) j) (omega (arith, task-reach image p j within, next)))))
      ∙ sym (transaction-parts image before p)
    where
      more : Sound u → (v : ℕ) → v < suc u → Sound v
      more at-u v below =
          elim (ℕ_discrete v u) [
            | yes e ↦ rw e at-u
            | no ne ↦ each v (omega arith)
          ]

  -- ---- the end, and the whole

  same-close : (p : ℕ) → p ≤ bits_most → end_fault cut p ≡ end_fault image p
  unfolding end_fault
  same-close p h =
      ap₂ ◌then◌
      (ap (λ (v : ℕ). checked (eqb v 0) PaddingSet p) (same-value p (8 * bytes_to p - p) (omega arith)))
      (ap (λ t. checked t BytesFollow (8 * bytes_to p))
      (lt-leb (length cut) (bytes_to p) (omega (arith, cut-length)) ∙ sym (lt-leb (length image) (bytes_to p) (omega arith))))

  abbrev found : List ℕ → (u : ℕ) → Answer
  found bytes u = transaction_fault bytes (tasks_before bytes u) (start bytes u)

  same_body : count_in image ≤ transactions_most → body_fault cut ≡ body_fault image
  same_body few =
      let n = count_in image in
      let count : count_in cut ≡ n = same-value count_at transactions_width (omega arith) in
      let each : first_of n (found image) ≡ first_of n (found cut) =
      first-same n (found image) (found cut)
      (λ u below so_far. sym (same-transaction u (omega arith) (sound-before image u so_far))) in
      let last : first_of n (found image) ≡ accepted → end_fault cut (start cut n) ≡ end_fault image (start image n) =
      λ all.
      ap (end_fault cut) (same_start n few (sound-before image n all))
      ∙ same-close (start image n) (reach-most image n few (sound-before image n all)) in
      rw (body-parts cut, body-parts image, count, ← each) (then_same (first_of n (found image)) last)

  same-fault : image_fault cut ≡ image_fault image
  same-fault =
      image-parts cut
      ∙ rw same-header (then_same (header_fault image) (λ clear. same_body (sound-header image clear).few))
      ∙ sym (image-parts image)

-- the first fault of any image is that of its first bytes, one more than the longest image has
pub cut-same : (image : List ℕ) → image_fault (take (longest_image + 1) image) ≡ image_fault image
cut-same image =
    elim (dec_le (longest_image + 1) (length image)) [
      | yes long ↦ same-fault image long
      | no short ↦ ap image_fault (take_all (longest_image + 1) image (omega arith))
    ]
