-- A table that is to be written is refused as its image is: by number and by place. Of an image that was written the end is
-- never at fault.
use mathlib.Core.Path.{◌≡◌, sym, ap, ◌∙◌}
use Prim.Native.Nat.{ℕ, ◌+◌, ◌-◌, ◌*◌, ◌≤◌}
use native.Mathlib.Omega.{arith}
use lib.ListN.{length}
use borrow.Author.Tests.{le-leb, lt-ltb, eq-eqb}
use Rattle.bits.specs.Bits.{value_at}
use Rattle.refusals.specs.Answer.{Answer, accepted, ◌then◌}
use Rattle.refusals.proofs.Findings.{then-joins, then-accepted, holds}
use Rattle.table.specs.Table.{Table, transactions}
use Rattle.table.specs.Limits.{limits}
use Rattle.table.specs.Fields.{TaskField, Field, IsField, width, Fits, Timed}
use Rattle.table.proofs.Accepted.{Reads}
use Rattle.table.specs.Rules.Deadlines.{keepable}
use Rattle.format.specs.Places.{start, bytes_to}
use Rattle.format.specs.Fault.{place_in, image_look, end_fault, image_fault}
use Rattle.format.specs.Image.{table_bits, image_of}
use Rattle.format.specs.Write.{start_of, table_look, table_fault}
use Rattle.round.proofs.Bits.{table-bits, padding-in}
use Rattle.round.proofs.Places.{length-table, written-length}
use Rattle.round.proofs.Back.{field-inside, count-back, start_back, task-place-back, place-back, said-back}
use Rattle.round.proofs.Alike.{Alike, alike-rules}

-- the end of what was written: the padding is 0, and nothing follows it
module _ (tab : Table) (timed : Timed tab) where
  abbrev end : ℕ
  end = start_of tab (transactions tab)

  padding : value_at (image_of tab) end (8 * bytes_to end - end) ≡ 0
  unfolding image_of
  padding = rw (length-table tab timed) at (padding-in (table_bits tab) (table-bits tab))

  end-clear : end_fault (image_of tab) end ≡ accepted
  unfolding end_fault
  end-clear =
      then-joins.none (holds _ _ (eq-eqb _ _ padding))
      (holds _ _ (le-leb (length (image_of tab)) (bytes_to end) (omega (arith, written-length tab timed))))

none_after : (a b : Answer) → b ≡ accepted → (a then b) ≡ a
none_after a b h = rw h (then-accepted a)

pub fits-clear : (tab : Table) → Fits tab → (f : Field) → IsField tab f → (table_look tab).finding f ≡ accepted
fits-clear tab fits f has = holds _ _ (lt-ltb _ _ (fits.below f has))

module _ (tab : Table) (fits : Fits tab) (timed : Timed tab) where
  reads-back : Reads (image_look (image_of tab)) tab
  reads-back = record { number = said-back tab fits timed }

  there-clear : (f : Field) → IsField tab f → (image_look (image_of tab)).finding f ≡ accepted
  there-clear f has =
      let inside : place_in (image_of tab) f + width f ≤ 8 * length (image_of tab) = rw (place-back tab fits timed f has) (field-inside tab timed f has) in
      holds _ _ (le-leb _ _ inside)

  looks-alike : Alike tab (image_look (image_of tab)) (table_look tab)
  looks-alike =
      record {
        finding = λ f has. there-clear f has ∙ sym (fits-clear tab fits f has);
        place = place-back tab fits timed;
        number = said-back tab fits timed;
        first = λ u j is. task-place-back tab fits timed u is.owner j (TaskField.time 0);
      }

  pub refused-alike : image_fault (image_of tab) ≡ table_fault tab
  unfolding image_fault table_fault
  refused-alike =
      none_after _ _
      (ap (end_fault (image_of tab)) (ap (start (image_of tab)) (count-back tab fits timed) ∙ start_back tab fits timed (transactions tab) (omega arith)) ∙ end-clear tab timed)
      ∙ alike-rules ◌then◌ limits keepable reads-back looks-alike
