-- The response, or the number of a refusal: a place fits 32 bits.
use Rattle.beside.proofs.Answered.{response-place}
use Rattle.beside.proofs.tell_plain.Goals as goal

pub told-requires : goal.told-requires
told-requires c = response-place c.in-Err.ensures
