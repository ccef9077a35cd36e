-- `tell` stores what there is, and gives number and place in one.
use Rattle.std.proofs.Math.Nat.{mod-eq_of_lt}
use Rattle.asked.proofs.tell.Goals as goal

pub returns : goal.returns
returns c = record { cells = c.put.ensures; number = rw (c.tell.ensures, mod-eq_of_lt c.requires) }
