-- The task that a bit position lies in: none where it lies in the header, in the head of a transaction or behind the last field; else the
-- one that so many whole tasks stand before.
use mathlib.Core.Path.{◌≡◌, refl}
use mathlib.Core.List.{List}
use Prim.Native.Nat.{ℕ, ◌-◌, ◌/◌, ◌%◌, ◌≤◌, ◌<◌}
use native.Mathlib.Nat.{div-add-mod'}
use native.Mathlib.Omega.{arith}
use borrow.Author.Tests.{lt-ltb, le-ltb}
use Rattle.table.specs.Fields.{TaskField}
use Rattle.table.specs.Fields.Field.{header, head, task}
use Rattle.format.specs.Places.{first_at, head_width, task_width, start}
use Rattle.format.specs.Said.{count_in}
use Rattle.std.proofs.Common.{Option, Some, None}
use Rattle.places.specs.declared.Owner.{Owner}
use Rattle.places.specs.declared.Spot.{Spot}
use Rattle.places.specs.Held.{Holds}
use Rattle.places.specs.Owner.{OwnsAs, InTaskAt, SpotAt}
use Rattle.places.specs.Find.{header_field_at, head_field_at, task_field_at, part_at}
use Rattle.places.proofs.Parts.{header-among}
use Rattle.places.proofs.Tiles.{part-holds, holds-is, one_field}

module _ (image : List ℕ) where
  pub no-task-in-header : (p : ℕ) → p < first_at → (u j : ℕ) (f : TaskField) → ¬ Holds image (task u j f) p
  no-task-in-header p h u j f holds =
      let same : header (header_field_at p) ≡ task u j f = one_field image p (record { has = tt; bit = header-among p h }) holds in
      let z : ◌≡◌ {A = ℕ} 0 1 = cc in
      absurd (omega arith)

  pub no-task-behind : (p : ℕ) → start image (count_in image) ≤ p → (u j : ℕ) (f : TaskField) → ¬ Holds image (task u j f) p
  no-task-behind p h u j f holds = absurd (omega (arith, h, (holds-is image p (task u j f) holds).0))

  module _ {p : ℕ} (owner : Owner) (o : OwnsAs image p owner) where
    own-part : Holds image (part_at owner.transaction owner.modes (p - owner.at)) p
    own-part = rw (o.modes, o.starts) (part-holds image owner.transaction p o.counted o.owns)

    pub no-task-in-head : p - owner.at < head_width → (u j : ℕ) (f : TaskField) → ¬ Holds image (task u j f) p
    unfolding part_at
    no-task-in-head h u j f holds =
        let rest = p - owner.at in
        let own : Holds image (head owner.transaction (head_field_at rest)) p = rw (lt-ltb rest head_width h) at own-part in
        let same : head owner.transaction (head_field_at rest) ≡ task u j f = one_field image p own holds in
        let z : ◌≡◌ {A = ℕ} 0 1 = cc in
        absurd (omega arith)

    pub task-spot : head_width ≤ p - owner.at → InTaskAt image p (p - (p - owner.at - head_width) % task_width owner.modes) owner.modes
    unfolding part_at
    task-spot h =
        let inner = p - owner.at - head_width in
        let w = task_width owner.modes in
        record {
          u = owner.transaction;
          j = inner / w;
          field = task_field_at (inner % w);
          holds = rw (le-ltb (p - owner.at) head_width h) at own-part;
          modes = o.modes;
          starts = omega (arith, div-add-mod' inner w, o.starts, o.owns.from);
        }

  -- there is one answer and no other
  pub spot-unique : (p : ℕ) {r s : Option Spot} → SpotAt image p r → SpotAt image p s → r ≡ s
  spot-unique p {r = Some q} {s = Some t} a b =
      let same : task a.u a.j a.field ≡ task b.u b.j b.field = one_field image p a.holds b.holds in
      let at : q.at ≡ t.at = cc in
      let modes : q.modes ≡ t.modes = cc in
      λ i. Some (record { at = at i; modes = modes i })
  spot-unique p {r = Some q} {s = None} a none = absurd (none a.u a.j a.field a.holds)
  spot-unique p {r = None} {s = Some q} none b = absurd (none b.u b.j b.field b.holds)
  spot-unique p {r = None} {s = None} none also = refl
