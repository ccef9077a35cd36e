-- The fields of an image follow one another with no gap from bit 0 to where the padding starts, whatever its counts are: each
-- bit position is held by one field, or lies behind the last.
use mathlib.Core.Path.{◌≡◌, ap, sym, ◌∙◌}
use mathlib.Core.List.{List}
use Prim.Native.Nat.{ℕ, zero, suc, ◌+◌, ◌-◌, ◌*◌, ◌/◌, ◌%◌, ◌≤◌, ◌<◌}
use native.Mathlib.Nat.{div-add-mod', mod-lt, div-lt_iff_lt-mul, div-eq_of_lt-le, add-mul, one-mul}
use native.Mathlib.Decide.{dec_lt}
use native.Mathlib.Omega.{arith}
use borrow.Author.Tests.{lt-ltb, le-ltb}
use Rattle.table.specs.Table.{transactions}
use Rattle.table.specs.Fields.{HeaderField, HeadField, TaskField, Field, IsTaskField, IsField, width}
use Rattle.table.specs.Fields.Field.{header, head, task}
use Rattle.format.specs.Places.{first_at, head_width, task_width, task_at, past, start}
use Rattle.format.specs.Said.{count_in, modes_in, tasks_in, table_in}
use Rattle.format.specs.Fault.{place_in}
use Rattle.format.proofs.Said.{said-transactions, said-modes, said-tasks}
use Rattle.format.proofs.Reach.{task-reach}
use Rattle.places.specs.Held.{Among, Holds}
use Rattle.places.specs.Owner.{Owns}
use Rattle.places.specs.Find.{head_field_at, task_field_at, part_at, owner_of, part_in, holder_at}
use Rattle.places.proofs.Parts.{split, header-among, header_is, header-inside, head-among, head-is, head-inside, head-from, task-among, task-is, task-inside, task-from}

module _ (image : List ℕ) where
  -- ---- the fields that an image has, by its own counts

  pub has-head : (u : ℕ) → u < count_in image → u < transactions (table_in image)
  has-head u below = rw (said-transactions image) below

  head-had : (u : ℕ) → u < transactions (table_in image) → u < count_in image
  head-had u below = rw (said-transactions image) at below

  pub has-task :
      (u j : ℕ) (f : TaskField)
      → u < count_in image
      → j < tasks_in image (start image u)
      → IsTaskField (modes_in image (start image u)) f
      → IsField (table_in image) (task u j f)
  has-task u j f below within timed =
      (record { owner = has-head u below; place = rw (said-tasks image u below) within }, rw (said-modes image u below) timed)

  -- ---- where transactions start

  next : (u : ℕ) → start image u + head_width ≤ start image (suc u)
  unfolding start past
  next u = omega arith

  later : (u v : ℕ) → u ≤ v → start image u ≤ start image v
  unfolding start
  later u zero h =
      let e : u ≡ 0 = omega arith in
      omega (arith, ap (start image) e)
  later u (suc v) h =
      elim (dec_lt v u) [
        | yes l ↦
            let e : u ≡ suc v = omega arith in
            omega (arith, ap (start image) e)
        | no l ↦ omega (arith, later u v (omega arith), next v)
      ]

  -- bit p is one of transaction u, and u is one of the first n
  record Owned (n u p : ℕ) : Type 0 where
    counted : u < n
    owns : Owns image u p

  owner : (n p : ℕ) → first_at ≤ p → p < start image n → Owned n (owner_of image n p) p
  unfolding owner_of start
  owner zero p h l = absurd (omega arith)
  owner (suc n) p h l =
      split (λ u. Owned (suc n) u p) p (start image n)
      (λ k.
      let earlier : Owned n (owner_of image n p) p = owner n p h k in
      record { counted = omega (arith, earlier.counted); owns = earlier.owns })
      (λ k. record { counted = omega arith; owns = record { from = k; below = l } })

  owner-is : (n u p : ℕ) → u < n → Owns image u p → owner_of image n p ≡ u
  unfolding owner_of
  owner-is zero u p h o = absurd (omega arith)
  owner-is (suc n) u p h o =
      split (λ v. v ≡ u) p (start image n)
      (λ k.
      elim (dec_lt u n) [
        | yes l ↦ owner-is n u p l o
        | no l ↦
            let e : u ≡ n = omega arith in
            absurd (omega (arith, ap (start image) e, o.from))
      ])
      (λ k.
      elim (dec_lt u n) [
        | yes l ↦ absurd (omega (arith, later (suc u) n l, o.below))
        | no l ↦ omega arith
      ])

  -- ---- the fields of one transaction

  pub part-holds : (u p : ℕ) → u < count_in image → Owns image u p → Holds image (part_in image u p) p
  unfolding part_at start past
  part-holds u p below o =
      let s = start image u in
      let m = modes_in image s in
      let w = task_width m in
      let rest = p - s in
      let inner = rest - head_width in
      split (λ f. Holds image f p) rest head_width
      (λ l.
      let among : Among (place_in image (head u (head_field_at rest))) (width (head u (head_field_at rest))) (s + rest) = head-among s rest l in
      record { has = has-head u below; bit = omega (arith, among, o.from) })
      (λ l.
      let whole : inner / w * w + inner % w ≡ inner = div-add-mod' inner w in
      let short : inner % w < w = mod-lt inner (omega arith) in
      let counted : inner / w < tasks_in image s = (div-lt_iff_lt-mul (omega arith)).1 (omega (arith, o.below)) in
      let (timed, among) = task-among (task_at s m (inner / w)) (inner % w) m short in
      record {
        has = has-task u (inner / w) (task_field_at (inner % w)) below counted timed;
        bit = omega (arith, among, o.from);
      })

  head-part : (u p : ℕ) (f : HeadField) → Holds image (head u f) p → Owns image u p × (part_in image u p ≡ head u f)
  unfolding part_at
  head-part u p f h =
      let s = start image u in
      let rest = p - s in
      let at : s ≤ p = omega (arith, head-from s f, h.bit) in
      let among : Among (place_in image (head u f)) (width (head u f)) (s + rest) =
      omega (arith, h.bit) in
      let inside : rest < head_width = head-inside s rest f among in (
        record { from = at; below = omega (arith, next u) },
        rw (lt-ltb rest head_width inside) (ap (head u) (head-is s rest f among)),
      )

  task-part : (u j p : ℕ) (f : TaskField) → Holds image (task u j f) p → Owns image u p × (part_in image u p ≡ task u j f)
  unfolding part_at start
  task-part u j p f h =
      let s = start image u in
      let m = modes_in image s in
      let w = task_width m in
      let q = task_at s m j in
      let inner = p - s - head_width in
      let below : u < count_in image = head-had u h.has.0.owner in
      let within : j < tasks_in image s = rw (said-tasks image u below) at h.has.0.place in
      let at : q ≤ p = omega (arith, task-from q f, h.bit) in
      let among : IsTaskField m f × Among (place_in image (task u j f)) (width (task u j f)) (q + (p - q)) =
      (rw (said-modes image u below) at h.has.1, omega (arith, h.bit)) in
      let short : p - q < w = task-inside q (p - q) m f among in
      let one_more : (j + 1) * w ≡ j * w + w = omega (arith, add-mul j 1 w, one-mul w) in
      let quotient : inner / w ≡ j = div-eq_of_lt-le w (omega arith) (omega arith) in
      let remainder : inner % w ≡ p - q = omega (arith, div-add-mod' inner w, ap (λ (x : ℕ). x * w) quotient) in (
        record { from = omega arith; below = omega (arith, task-reach image s j within) },
        rw (le-ltb (p - s) head_width (omega arith), quotient, remainder) (ap (task u j) (task-is q (p - q) m f among)),
      )

  -- ---- the whole image

  -- every bit position before the padding is held by a field
  pub holder-holds : (p : ℕ) → p < start image (count_in image) → Holds image (holder_at image p) p
  unfolding holder_at
  holder-holds p h =
      split (λ f. Holds image f p) p first_at
      (λ l. record { has = tt; bit = header-among p l })
      (λ l.
      let o : Owned (count_in image) (owner_of image (count_in image) p) p = owner (count_in image) p l h in
      part-holds (owner_of image (count_in image) p) p o.counted o.owns)

  owned : (u p : ℕ) (f : Field) → u < count_in image → Owns image u p → part_in image u p ≡ f → (p < start image (count_in image)) × (holder_at image p ≡ f)
  unfolding holder_at start
  owned u p f below o is = (
    omega (arith, o.below, later (suc u) (count_in image) below),
    rw (le-ltb p first_at (omega (arith, o.from, later 0 u (omega arith))), owner-is (count_in image) u p below o) is,
  )

  -- a field that holds a bit position is the one that is worked out for it
  pub holds-is : (p : ℕ) (f : Field) → Holds image f p → (p < start image (count_in image)) × (holder_at image p ≡ f)
  unfolding holder_at start
  holds-is p (header f) h =
      let inside : p < first_at = header-inside p f h.bit in
      (omega (arith, later 0 (count_in image) (omega arith)), rw (lt-ltb p first_at inside) (ap header (header_is p f h.bit)))
  holds-is p (head u f) h =
      let (o, is) = head-part u p f h in
      owned u p (head u f) (head-had u h.has) o is
  holds-is p (task u j f) h =
      let (o, is) = task-part u j p f h in
      owned u p (task u j f) (head-had u h.has.0.owner) o is

  -- no two fields hold the same bit
  pub one_field : (p : ℕ) {f g : Field} → Holds image f p → Holds image g p → f ≡ g
  one_field p {f} {g} h k = sym (holds-is p f h).1 ∙ (holds-is p g k).1

  -- each field holds the bit at its own place
  pub own-place : (f : Field) → IsField (table_in image) f → Holds image f (place_in image f)
  own-place f has = record { has = has; bit = omega (arith, some f) }
    where
      some : (f : Field) → 0 < width f
      some (header HeaderField.edition) = omega arith
      some (header HeaderField.frame) = omega arith
      some (header HeaderField.count) = omega arith
      some (head u HeadField.period) = omega arith
      some (head u HeadField.modes) = omega arith
      some (head u HeadField.tasks) = omega arith
      some (task u j TaskField.offset) = omega arith
      some (task u j TaskField.jitter) = omega arith
      some (task u j TaskField.blocking) = omega arith
      some (task u j TaskField.deadline) = omega arith
      some (task u j TaskField.priority) = omega arith
      some (task u j (TaskField.time m)) = omega arith
