-- `tell_cells` gives number and place in one: every place fits 32 bits.
use Rattle.std.proofs.Math.Nat.{mod-eq_of_lt}
use Rattle.asked.proofs.Told.{filled-place}
use Rattle.asked.proofs.tell_cells.Goals as goal

pub returns : goal.returns
returns c =
    record {
      filled = c.cells-filled.result;
      fills = c.cells-filled.ensures;
      number = rw (c.tell.ensures, mod-eq_of_lt (filled-place c.cells-filled.ensures));
    }
