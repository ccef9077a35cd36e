-- `tell_charge`: every place fits 32 bits.
use Rattle.asked.proofs.Told.{charge-place}
use Rattle.asked.proofs.tell_charge.Goals as goal

pub tell-requires : goal.tell-requires
tell-requires c = charge-place _ c.charge.ensures

pub returns : goal.returns
returns c = record { part = c.charge.result; says = c.charge.ensures; tells = c.tell.ensures }
