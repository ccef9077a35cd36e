-- `modes_at` meets its contract: they have four bits.
use Rattle.format.proofs.Places.{modes-small}
use Rattle.places.proofs.modes_at.Goals as goal

pub returns-clause-small : goal.returns-clause-small
returns-clause-small c = rw c.value.ensures (modes-small _ c.args.at)
