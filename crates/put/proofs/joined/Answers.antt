-- `put::joined` meets its contract: the bits are at most eight, so that no shift loses one.
use native.Mathlib.Omega.{arith}
use Rattle.put.proofs.BitsPut.{joined-exact, joined-below}
use Rattle.put.proofs.joined.Goals as goal

pub overflow_cast-result-2 : goal.overflow_cast-result-2
overflow_cast-result-2 c = record { fits = rw (joined-exact c.from.result c.args.from c.args.take c.args.value (omega (arith, c.from.ensures)) c.requires) (joined-below c.from.result c.args.from c.args.take c.args.value (omega (arith, c.from.ensures)) c.requires) }

pub returns : goal.returns
returns c = rw (joined-exact c.from.result c.args.from c.args.take c.args.value (omega (arith, c.from.ensures)) c.requires, c.from.ensures)
