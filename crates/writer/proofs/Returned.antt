-- What writing promises, from its contract: what was written is read back, what was read is written as the same bytes, a refusal leaves
-- every byte, and there is one answer and no other.
use Rattle.std.specs.Prelude.{Ok, Err}
use mathlib.Core.Path.{◌≡◌, refl, sym, ap, ◌∙◌}
use mathlib.Core.Bool.{Bool, true, false}
use mathlib.Core.List.{List, ◌++◌}
use Prim.Native.Nat.{ℕ, ◌*◌, ◌≤◌}
use native.Mathlib.Omega.{arith}
use lib.Dec.{leb}
use lib.ListN.{length, take, drop}
use lib.Seq.{take-append_seam}
use borrow.Author.Tests.{le-leb}
use Rattle.refusals.specs.declared.Refusal.{Refusal}
use Rattle.refusals.specs.declared.Refusal.TheVariants.{BufferShort}
use Rattle.refusals.specs.Answer.{Answer, accepted, refused, ◌then◌, checked}
use Rattle.refusals.proofs.Findings.{none_first}
use Rattle.table.specs.Table.{Table}
use Rattle.table.specs.Fields.{Timed}
use Rattle.format.specs.Places.{longest_image}
use Rattle.format.specs.Said.{table_in}
use Rattle.format.specs.Fault.{IsAccepted}
use Rattle.format.specs.Image.{image_of}
use Rattle.format.specs.Write.{table_fault, write_fault}
use Rattle.format.proofs.Reach.{longest}
use Rattle.format.proofs.Round.{AreBytes, round}
use Rattle.round.proofs.Accepted.{written-accepted, write-back}
use Rattle.round.proofs.Found.{furthest}
use Rattle.writer.specs.Write.{Writing, written, writing_place, answered, holding, Writes}

-- one answer, and one content of the buffer
pub writes-unique :
    {tab : Table} {before one two : List ℕ} {r s : Writing} → Writes tab before one r → Writes tab before two s → (r ≡ s) × (one ≡ two)
writes-unique x y = (x.answer ∙ sym y.answer, x.buffer ∙ sym y.buffer)

-- a refusal leaves every byte
pub untouched : {tab : Table} {before after : List ℕ} {r : Refusal} {at : ℕ} → Writes tab before after (refused r at) → after ≡ before
untouched {tab} {before} {after} {r} {at} x = x.buffer ∙ go (write_fault tab (length before)) x.answer
  where
    go : (a : Answer) → refused r at ≡ answered a (image_of tab) → holding a (image_of tab) before ≡ before
    go (Ok x) h = cc
    go (Err f) h = refl

-- ---- what was written

module _ {tab : Table} {before after : List ℕ} {n : ℕ} (x : Writes tab before after (written n)) where
  told : (a : Answer) → written n ≡ answered a (image_of tab) → (a ≡ accepted) × (n ≡ length (image_of tab))
  told (Ok x) h = (refl, ap writing_place h)
  told (Err f) h = (cc, cc)

  found : (write_fault tab (length before) ≡ accepted) × (n ≡ length (image_of tab))
  found = told (write_fault tab (length before)) x.answer

  pub no-fault : table_fault tab ≡ accepted
  unfolding write_fault
  no-fault = none_first _ _ found.0

  -- the buffer begins with the image, and what lies beyond it is as it was
  pub image-first : after ≡ image_of tab ++ drop n before
  image-first = x.buffer ∙ rw (found.0, found.1)

  image-taken : take n after ≡ image_of tab
  image-taken = rw (image-first, found.1) (take-append_seam (image_of tab) _)

  -- reading what was written gives the same table
  pub written_read : Timed tab → IsAccepted (take n after) × (table_in (take n after) ≡ tab)
  written_read timed = rw image-taken (written-accepted tab no-fault timed)

-- ---- writing what was read gives the same bytes

module _ (image : List ℕ) (ok : IsAccepted image) (bytes : AreBytes image) {before after : List ℕ} {r : Writing} (x : Writes (table_in image) before after r) where
  pub read-written : length image ≤ length before → (r ≡ written (length image)) × (after ≡ image ++ drop (length image) before)
  unfolding write_fault ◌then◌ checked
  read-written room =
      let same : image_of (table_in image) ≡ image = round image ok bytes in
      let none : write_fault (table_in image) (length before) ≡ accepted = rw (write-back image ok, same, le-leb (length image) (length before) room) in
      (x.answer ∙ rw (none, same), x.buffer ∙ rw (none, same))

-- ---- places, and the image's length, are at most 20,168

pub place-most : {tab : Table} {before after : List ℕ} {r : Writing} → Timed tab → Writes tab before after r → writing_place r ≤ 8 * longest_image
unfolding write_fault ◌then◌ checked
place-most {tab} {before} timed x = rw x.answer (go (table_fault tab) refl (leb (length (image_of tab)) (length before)))
  where
    go :
        (a : Answer)
        → table_fault tab ≡ a
        → (t : Bool)
        → writing_place (answered (a then checked t BufferShort 0) (image_of tab)) ≤ 8 * longest_image
    go (Ok x) ok true = omega (arith, longest (image_of tab) (written-accepted tab ok timed).0)
    go (Ok x) ok false = omega arith
    go (Err f) found t = rw found at (furthest tab)
