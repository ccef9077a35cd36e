-- What becomes of a table that is to be written, by its first fault and the room that there is.
use mathlib.Core.Path.{◌≡◌, ap}
use mathlib.Core.List.{List}
use Prim.Native.Nat.{ℕ, ◌≤◌}
use lib.ListN.{length}
use lib.Dec.{leb}
use borrow.Author.Tests.{leb-true}
use Rattle.bits.specs.Put.{bits_put}
use Rattle.std.specs.Prelude.{Err}
use Rattle.refusals.specs.declared.Fault.{Fault}
use Rattle.refusals.specs.declared.Refusal.TheVariants.{BufferShort}
use Rattle.refusals.specs.Answer.{accepted, ◌then◌, checked}
use Rattle.refusals.proofs.Findings.{held}
use Rattle.table.specs.Table.{Table, transactions}
use Rattle.format.specs.Places.{bytes_to}
use Rattle.format.specs.Image.{table_bits, image_of}
use Rattle.format.specs.Write.{start_of, table_fault, write_fault}
use Rattle.round.proofs.Laid.{image-laid}
use Rattle.round.proofs.Places.{written-length}
use Rattle.round.proofs.Row.{row-timed}
use Rattle.row.specs.Row.{table_of}
use Rattle.writer.specs.Write.{written, Writes}

module _ (tab : Table) (before : List ℕ) where
  -- a fault of the table comes first
  pub faulty : {f : Fault} → table_fault tab ≡ Err f → Writes tab before before (Err f)
  unfolding write_fault ◌then◌
  faulty found = record { answer = rw found; buffer = rw found }

  module _ (ok : table_fault tab ≡ accepted) where
    -- then the room is asked for
    pub short : {n : ℕ} {f : Fault} → n ≡ length (image_of tab) → checked (leb n (length before)) BufferShort 0 ≡ Err f → Writes tab before before (Err f)
    unfolding write_fault ◌then◌
    short is found = record { answer = rw (ok, ← is, found); buffer = rw (ok, ← is, found) }

    pub whole :
        {n : ℕ}
        → n ≡ length (image_of tab)
        → checked (leb n (length before)) BufferShort 0 ≡ accepted
        → Writes tab before (bits_put before 0 (table_bits tab)) (written n)
    unfolding write_fault ◌then◌
    whole {n} is none =
        let room : n ≤ length before = leb-true n (length before) (held _ _ _ none) in
        record { answer = rw (ok, ← is, none) (ap written is); buffer = rw (ok, ← is, none) (image-laid before tab (rw (← is) room)) }

-- how long the image of a row's table is
pub row-length : (row : List ℕ) → length (image_of (table_of row)) ≡ bytes_to (start_of (table_of row) (transactions (table_of row)))
row-length row = written-length (table_of row) (row-timed row)
