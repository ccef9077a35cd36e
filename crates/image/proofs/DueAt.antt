-- The task that a bit position lies in, and what the image says there: the numbers of that task in the table. At the place of a 14
-- they say why.
use Rattle.std.specs.Prelude.{Option, Some, None}
use mathlib.Core.Path.{◌≡◌, refl, ap, ◌∙◌}
use mathlib.Core.List.{List}
use Prim.Native.Nat.{ℕ, ◌+◌, ◌≤◌, ◌<◌, ◌^◌}
use native.Mathlib.Decide.{dec_lt}
use native.Mathlib.Omega.{arith}
use Rattle.refusals.specs.Answer.{refused}
use Rattle.refusals.specs.declared.Refusal.TheVariants.{DeadlineShort}
use Rattle.table.specs.Sum.{greatest}
use Rattle.table.specs.Table.{IsTask, offset, deadline}
use Rattle.table.specs.Fields.{TaskField}
use Rattle.table.specs.Fields.Field.{task}
use Rattle.table.specs.Keepable.{greatest_time}
use Rattle.table.proofs.Accepted.{count-read, modes-read, tasks-read, offset_read, deadline-read, greatest-read}
use Rattle.format.specs.Places.{task_at, start}
use Rattle.format.specs.Said.{count_in, modes_in, offset_in, deadline_in, time_in, table_in}
use Rattle.format.specs.Fault.{image_fault}
use Rattle.format.proofs.Places.{modes-small, tasks-small, tasks-width, near}
use Rattle.format.proofs.Kept.{reads}
use Rattle.places.specs.Owner.{InTaskAt}
use Rattle.places.proofs.Tiles.{one_field}
use Rattle.places.proofs.Refused.{ShortAt, short-at}
use Rattle.image.specs.declared.due.Due.{Due}
use Rattle.image.specs.Due.{DueOf, DueAt}

module _ {image : List ℕ} {p q m : ℕ} (at : InTaskAt image p q m) where
  is : IsTask (table_in image) at.u at.j
  is = at.holds.has.0

  pub spot-small : (q < 2 ^ 32) × (m < 16)
  spot-small =
      let narrow : m < 16 = rw at.modes (modes-small image (start image at.u)) in
      let few : at.j < 32 = omega (arith, is.place, tasks-read (reads image) is.owner, tasks-small image (start image at.u)) in
      let owner : at.u ≤ count_in image = omega (arith, is.owner, count-read (reads image)) in
      (omega (arith, at.starts, near image at.u owner, tasks-width at.j m few narrow), narrow)

  pub spot-due : DueOf image p (record { offset = offset_in image q; time = greatest m (time_in image q); deadline = deadline_in image q })
  unfolding greatest_time
  spot-due =
      record {
        u = at.u;
        j = at.j;
        field = at.field;
        holds = at.holds;
        offset = rw (at.starts, at.modes) (offset_read (reads image) is);
        time =
            rw (at.starts, at.modes)
            (ap (λ (n : ℕ). greatest n (time_in image (task_at (start image at.u) (modes_in image (start image at.u)) at.j))) (modes-read (reads image) is.owner)
            ∙ greatest-read (reads image) is);
        deadline = rw (at.starts, at.modes) (deadline-read (reads image) is);
      }

abbrev told : ℕ → ℕ → ℕ → Option Due
told o c d = Some (record { offset = o; time = c; deadline = d })

same-told : {o c d o2 c2 d2 : ℕ} → o ≡ o2 → c ≡ c2 → d ≡ d2 → told o c d ≡ told o2 c2 d2
same-told e f g = cc

module _ (image : List ℕ) (p : ℕ) where
  -- there is one answer and no other
  pub due-unique : {r s : Option Due} → DueAt image p r → DueAt image p s → r ≡ s
  due-unique {r = Some d} {s = Some e} a b =
      let same : task a.u a.j a.field ≡ task b.u b.j b.field = one_field image p a.holds b.holds in
      let offset : d.offset ≡ e.offset = cc in
      let time : d.time ≡ e.time = cc in
      let deadline : d.deadline ≡ e.deadline = cc in
      same-told offset time deadline
  due-unique {r = Some d} {s = None} a none = absurd (none a.u a.j a.field a.holds)
  due-unique {r = None} {s = Some d} none b = absurd (none b.u b.j b.field b.holds)
  due-unique {r = None} {s = None} none also = refl

  -- the numbers of a task whose deadline has no room for its offset and its greatest time
  pub record Short (r : Option Due) : Type 0 where
    pub due : Due
    pub is : r ≡ Some due
    pub short : due.deadline < due.offset + due.time

  -- they are told at the place where such a task is refused
  pub short-said : {r : Option Due} → image_fault image ≡ refused DeadlineShort p → DueAt image p r → Short r
  short-said {r = Some due} e a =
      let s : ShortAt image p = short-at image e in
      let same : task a.u a.j a.field ≡ task s.u s.j TaskField.deadline = one_field image p a.holds s.holds in
      let own-offset : due.offset ≡ offset (table_in image) s.u s.j = cc in
      let own-time : due.time ≡ greatest_time (table_in image) s.u s.j = cc in
      let own-deadline : due.deadline ≡ deadline (table_in image) s.u s.j = cc in
      elim (dec_lt due.deadline (due.offset + due.time)) [
        | yes short ↦ record { due = due; is = refl; short = short }
        | no room ↦ absurd (s.short (omega arith))
      ]
  short-said {r = None} e none =
      let s : ShortAt image p = short-at image e in
      absurd (none s.u s.j TaskField.deadline s.holds)
