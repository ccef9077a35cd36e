-- `tell_parts` stores the parts, and gives number and place in one: every place fits 32 bits.
use Rattle.std.proofs.Common.{refl, arith}
use Rattle.asked.proofs.Told.{made-place}
use Rattle.asked.proofs.tell_parts.Goals as goal

pub overflow_cast-place : goal.overflow_cast-place
overflow_cast-place c = omega (arith, c.place.ensures, made-place c.parts-made.ensures)

pub returns : goal.returns
returns c =
    record {
      made = c.parts-made.result;
      says = c.parts-made.ensures;
      cells = c.put.ensures;
      number = rw (c.pair.ensures, c.number.ensures, c.place.ensures) refl;
    }
