-- `tasks_at` meets its contract: they have five bits.
use Rattle.format.proofs.Places.{tasks-small}
use Rattle.places.proofs.tasks_at.Goals as goal

pub returns-clause-small : goal.returns-clause-small
returns-clause-small c = rw c.value.ensures (tasks-small _ c.args.at)
