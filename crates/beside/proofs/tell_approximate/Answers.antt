-- The value into the cell, or the number of a refusal: a place fits 32 bits.
use Rattle.std.proofs.Common.{refl}
use Rattle.told.specs.Told.{paired}
use Rattle.beside.proofs.Answered.{approximation-place}
use Rattle.beside.proofs.tell_approximate.Goals as goal

pub told-requires : goal.told-requires
told-requires c = approximation-place c.in-Err.ensures

pub returns-in-Ok : goal.returns-in-Ok
unfolding paired
returns-in-Ok c =
    record {
      approximation = c.approximate.result;
      approximates = c.approximate.ensures;
      cell = rw c.in-Ok.is refl;
      number = rw c.in-Ok.is refl;
    }
