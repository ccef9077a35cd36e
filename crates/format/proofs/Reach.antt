-- How far an image reaches: the longest accepted one, and the furthest place of a refusal. Both go by the counts and the places
-- of the fields alone, so they hold of any look whose fields follow one another as in an image.
use Rattle.std.specs.Prelude.{Ok, Err}
use mathlib.Core.Path.{◌≡◌, refl}
use mathlib.Core.List.{List}
use Prim.Native.Nat.{ℕ, zero, suc, ◌+◌, ◌*◌, ◌≤◌, ◌<◌}
use native.Mathlib.Nat.{mul-le-mul, le_refl, add-mul, one-mul}
use native.Mathlib.Omega.{arith}
use lib.ListN.{length}
use Rattle.table.specs.Sum.{sum}
use Rattle.table.specs.Limits.{limits, transactions_most, modes_most, tasks_in_all}
use Rattle.table.specs.Fields.{HeaderField, HeadField, TaskField, Field, IsTaskField}
use Rattle.table.specs.Rules.{Look, table_rules}
use Rattle.table.specs.Rules.Deadlines.{keepable}
use Rattle.table.proofs.Rules.{SoundTable, sound-table}
use Rattle.refusals.specs.declared.Refusal.{Refusal}
use Rattle.refusals.specs.Answer.{Answer, accepted, answer_place, ◌then◌, first_of}
use Rattle.refusals.proofs.Findings.{then-joins, Only, only-checked, only_then}
use Rattle.format.specs.Places.{first_at, head_width, place_in_header, place_in_head, place_in_task, task_width, task_at, past, start, longest_image}
use Rattle.format.specs.Said.{count_in, modes_in, tasks_in, tasks_before}
use Rattle.format.specs.Fault.{image_look, transaction_fault, end_fault, image_fault, IsAccepted}
use Rattle.format.proofs.Reached.{HeadHolds, few-before, Reached, heads-hold, only-table}
use Rattle.format.proofs.Accepted.{SoundHead, header, head, end}

-- the bits of a header, of as many heads as there may be, and of as many tasks with a time for each mode
abbrev pub bits_most : ℕ
bits_most = first_at + head_width * transactions_most + task_width modes_most * tasks_in_all

tasks-reach : (n m : ℕ) → m ≤ modes_most → n * task_width m ≤ n * task_width modes_most
tasks-reach n m narrow =
    let wide : task_width m ≤ task_width modes_most = omega arith in
    mul-le-mul (le_refl n) wide

-- task j of n ends where the last one does, or before
task-ends : (p m n j : ℕ) → j < n → task_at p m j + task_width m ≤ task_at p m n
task-ends p m n j h =
    let one_more : (j + 1) * task_width m ≤ n * task_width m = mul-le-mul (omega arith) (le_refl (task_width m)) in
    omega (arith, one_more, add-mul j 1 (task_width m), one-mul (task_width m))

-- a field of the task of m modes at q that ends in reach is in reach
in-task : (q m : ℕ) (f : TaskField) → IsTaskField m f → q + task_width m ≤ 8 * longest_image → place_in_task q f ≤ 8 * longest_image
in-task q m TaskField.offset has h = omega arith
in-task q m TaskField.jitter has h = omega arith
in-task q m TaskField.blocking has h = omega arith
in-task q m TaskField.deadline has h = omega arith
in-task q m TaskField.priority has h = omega arith
in-task q m (TaskField.time k) has h = omega arith

-- ---- any look

-- the fields of a look stand as in an image, its transactions at those positions
pub record Placed (look : Look Field) (begin : ℕ → ℕ) : Type 0 where
  pub header : (f : HeaderField) → look.place (Field.header f) ≡ place_in_header f
  pub head : (u : ℕ) (f : HeadField) → look.place (Field.head u f) ≡ place_in_head (begin u) f
  pub task : (u j : ℕ) (f : TaskField) → look.place (Field.task u j f) ≡ place_in_task (task_at (begin u) (look.number (Field.head u HeadField.modes)) j) f
  pub first : begin 0 ≡ first_at
  pub next : (u : ℕ) → begin (suc u) ≡ task_at (begin u) (look.number (Field.head u HeadField.modes)) (look.number (Field.head u HeadField.tasks))

abbrev pub most : ℕ
most = 8 * longest_image

abbrev Near : Refusal → ℕ → Type 0
Near refusal p = p ≤ most

abbrev pub Within : Answer → Type 0
Within = Only Near

pub within-place : (a : Answer) → Within a → answer_place a ≤ most
within-place (Ok x) h = omega arith
within-place (Err f) h = h

module _ {look : Look Field} {begin : ℕ → ℕ} (placed : Placed look begin) where
  abbrev Holds : ℕ → Type 0
  Holds = HeadHolds limits look

  -- where the heads of the first u transactions hold
  reach :
      (u : ℕ) → ((v : ℕ) → v < u → Holds v) → begin u ≤ first_at + head_width * u + task_width modes_most * sum u (λ v. look.number (Field.head v HeadField.tasks))
  unfolding sum
  reach zero each = omega (arith, placed.first)
  reach (suc u) each =
      omega (
        arith,
        placed.next u,
        reach u (λ v h. each v (omega arith)),
        tasks-reach (look.number (Field.head u HeadField.tasks)) (look.number (Field.head u HeadField.modes)) (each u (omega arith)).few_modes,
      )

  all-reach : (u : ℕ) → u ≤ transactions_most → ((v : ℕ) → v < u → Holds v) → begin u ≤ bits_most
  all-reach u h each = omega (arith, reach u each, few-before limits look u each)

  -- the head of a transaction that is not too many ends before
  next-reach : (u : ℕ) → u < transactions_most → ((v : ℕ) → v < u → Holds v) → begin u + head_width ≤ bits_most
  next-reach u h each = omega (arith, reach u each, few-before limits look u each)

  place-reach : (f : Field) → Reached limits look f → look.place f ≤ most
  place-reach (Field.header HeaderField.edition) here = omega (arith, placed.header HeaderField.edition)
  place-reach (Field.header HeaderField.frame) here = omega (arith, placed.header HeaderField.frame)
  place-reach (Field.header HeaderField.count) here = omega (arith, placed.header HeaderField.count)
  place-reach (Field.head u HeadField.period) here = omega (arith, placed.head u HeadField.period, next-reach u here.few here.heads)
  place-reach (Field.head u HeadField.modes) here = omega (arith, placed.head u HeadField.modes, next-reach u here.few here.heads)
  place-reach (Field.head u HeadField.tasks) here = omega (arith, placed.head u HeadField.tasks, next-reach u here.few here.heads)
  place-reach (Field.task u j f) here =
      let m = look.number (Field.head u HeadField.modes) in
      let n = look.number (Field.head u HeadField.tasks) in
      let q : ℕ = task_at (begin u) m j in
      let fits : q + task_width m ≤ most =
      omega (arith, task-ends (begin u) m n j here.0.within, placed.next u, all-reach (suc u) here.0.few here.0.heads) in
      rw (placed.task u j f) (in-task q m f here.1 fits)

  -- a finding by the rules is not further, where a field's own finding is at the field's place
  pub rules-within : ((f : Field) → look.place f ≤ most → Within (look.finding f)) → Within (table_rules ◌then◌ limits keepable look)
  rules-within own = only-table limits look keepable Near (λ f here. own f (place-reach f here)) (λ f here r is. place-reach f here)

-- ---- an image

module _ (image : List ℕ) where
  placed-image : Placed (image_look image) (start image)
  unfolding start past
  placed-image = record { header = λ f. refl; head = λ u f. refl; task = λ u j f. refl; first = refl; next = λ u. refl }

  abbrev Sound : ℕ → Type 0
  Sound v = SoundHead image (tasks_before image v) (start image v)

  pub reach-most : (u : ℕ) → u ≤ transactions_most → ((v : ℕ) → v < u → Sound v) → start image u ≤ bits_most
  unfolding tasks_before
  reach-most u h each = all-reach placed-image u h each

  pub head-reach : (u : ℕ) → u < transactions_most → ((v : ℕ) → v < u → Sound v) → start image u + head_width ≤ bits_most
  unfolding tasks_before
  head-reach u h each = next-reach placed-image u h each

  -- task j of the transaction at p ends where the next transaction starts, or before
  pub task-reach :
      (p j : ℕ)
      → j < tasks_in image p
      → task_at p (modes_in image p) j + task_width (modes_in image p) ≤ past image p
  unfolding past
  task-reach p j h = task-ends p (modes_in image p) (tasks_in image p) j h

  pub sound-before :
      (n : ℕ)
      → first_of n (λ u. transaction_fault image (tasks_before image u) (start image u)) ≡ accepted
      → (v : ℕ)
      → v < n
      → Sound v
  unfolding tasks_before
  sound-before n clear v h = heads-hold limits (image_look image) keepable n clear v h

  -- no accepted image is longer than the longest
  pub longest : IsAccepted image → length image ≤ longest_image
  longest ok =
      omega (arith, (end image ok).last, reach-most (count_in image) (header image ok).few (head image ok))

  end-place : (p : ℕ) → p ≤ bits_most → Within (end_fault image p)
  unfolding end_fault
  end-place p h =
      only_then Near _ _ (only-checked Near _ _ _ (omega arith)) (λ e. only-checked Near _ _ _ (omega arith))

  image-place : Within (image_fault image)
  unfolding image_fault
  image-place =
      only_then Near _ _ (rules-within placed-image (λ f h. only-checked Near _ _ _ h))
      (λ clear.
      let sound : SoundTable limits keepable (image_look image) = sound-table limits keepable then-joins (image_look image) clear in
      end-place (start image (count_in image))
      (all-reach placed-image (count_in image) sound.header.few (λ v below. (sound.transaction v below).head)))

  -- every place lies in it or at its end, whatever the bytes are
  pub furthest : answer_place (image_fault image) ≤ 8 * longest_image
  furthest = within-place (image_fault image) image-place
