-- `tell_part`: every place fits 32 bits.
use Rattle.asked.proofs.Told.{part-place}
use Rattle.asked.proofs.tell_part.Goals as goal

pub tell-requires : goal.tell-requires
tell-requires c = part-place c.part.ensures
