-- `bits::value` meets its contract: what the reader answers is the number of the bits, and so is what is read without it.
use mathlib.Core.Path.{sym}
use Rattle.bits.proofs.Fields.{number-of-field}
use Rattle.bits.proofs.value.Goals as goal

pub returns-in-Ok : goal.returns-in-Ok
returns-in-Ok c = rw (← c.min-width.ensures) (number-of-field _ _ _ (sym c.in-Ok.ensures))
