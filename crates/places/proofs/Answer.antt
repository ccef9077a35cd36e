-- The answer for a bit position: there is one and no other, and at a field's own place it is that field.
use mathlib.Core.Path.{◌≡◌, refl, sym, ap, ◌∙◌}
use mathlib.Core.List.{List}
use Prim.Native.Nat.{ℕ, ◌+◌, ◌-◌, ◌/◌, ◌%◌, ◌<◌}
use native.Mathlib.Omega.{arith}
use borrow.Author.Tests.{lt-ltb, le-ltb}
use Rattle.table.specs.Number.{number}
use Rattle.table.specs.Fields as table
use Rattle.table.specs.Fields.{IsField}
use Rattle.format.specs.Places.{first_at, head_width, task_width, start}
use Rattle.format.specs.Said.{count_in, modes_in, table_in, tasks_before}
use Rattle.format.specs.Fault.{place_in}
use Rattle.format.proofs.Said.{said-before}
use Rattle.places.specs.declared.Field.{Field}
use Rattle.places.specs.declared.Owner.{Owner}
use Rattle.places.specs.Held.{in_header, in_task, named, Held}
use Rattle.places.specs.Held.Held.{within, behind}
use Rattle.places.specs.Find.{header_field_at, task_field_at, part_at, part_in, holder_at, field_at}
use Rattle.places.proofs.Parts.{split, header-among}
use Rattle.places.specs.Owner.{Owns, OwnsAs}
use Rattle.places.proofs.Tiles.{part-holds, holder-holds, holds-is, own-place}

module _ (image : List ℕ) where
  -- a task's number in the whole table, as it is counted up along the image
  numbered : (u j : ℕ) → u < count_in image → number (table_in image) u j ≡ tasks_before image u + j
  unfolding number
  numbered u j below = ap (λ (n : ℕ). n + j) (said-before image u (omega arith))

  part-name :
      (u p : ℕ)
      → u < count_in image
      → named (number (table_in image)) (part_in image u p) ≡ named (λ v j. tasks_before image u + j) (part_in image u p)
  unfolding part_at
  part-name u p below =
      let inner = p - start image u - head_width in
      let w = task_width (modes_in image (start image u)) in
      split (λ f. named (number (table_in image)) f ≡ named (λ v j. tasks_before image u + j) f) (p - start image u) head_width (λ l. refl)
      (λ l. ap (λ (k : ℕ). in_task u k (task_field_at (inner % w))) (numbered u (inner / w) below))

  -- bit p of the header; of transaction u

  pub held-header : (p : ℕ) → p < first_at → Held image p (in_header (header_field_at p))
  held-header p h = within (table.Field.header (header_field_at p)) (record { has = tt; bit = header-among p h })

  held-part : (u p : ℕ) → u < count_in image → Owns image u p → Held image p (named (λ v j. tasks_before image u + j) (part_in image u p))
  held-part u p below o = rw (part-name u p below) at (within (part_in image u p) (part-holds image u p below o))

  pub held-owned :
      {p : ℕ} (owner : Owner)
      → OwnsAs image p owner
      → Held image p (named (λ v j. owner.before + j) (part_at owner.transaction owner.modes (p - owner.at)))
  held-owned {p} owner o = rw (o.tasks, o.modes, o.starts) (held-part owner.transaction p o.counted o.owns)

  -- there is an answer
  pub held_at : (p : ℕ) → Held image p (field_at image p)
  unfolding field_at
  held_at p = split (Held image p) p (start image (count_in image)) (λ l. within (holder_at image p) (holder-holds image p l)) behind

  -- and it is the only one
  pub held-is : (p : ℕ) {r : Field} → Held image p r → r ≡ field_at image p
  unfolding field_at
  held-is p (within f h) =
      let (before, is) = holds-is image p f h in
      rw (lt-ltb p (start image (count_in image)) before, is)
  held-is p (behind h) = rw (le-ltb p (start image (count_in image)) h)

  pub held-unique : (p : ℕ) {r s : Field} → Held image p r → Held image p s → r ≡ s
  held-unique p h k = held-is p h ∙ sym (held-is p k)

  -- every field's own place names it
  pub named-at : (f : table.Field) → IsField (table_in image) f → Held image (place_in image f) (named (number (table_in image)) f)
  named-at f has = within f (own-place image f has)

  pub place-names : (f : table.Field) {r : Field} → IsField (table_in image) f → Held image (place_in image f) r → r ≡ named (number (table_in image)) f
  place-names f has h = held-unique (place_in image f) h (named-at f has)
