-- `TransactionAt::new` meets its contract: a count of so few bits is small.
use mathlib.Core.Path.{refl}
use Rattle.format.proofs.Places.{modes-small, tasks-small}
use Rattle.image.proofs.parts.TransactionAt.new.Goals as goal

pub invariant_of-result : goal.invariant_of-result
invariant_of-result c =
    let image = c.args.image.now in
    let at = c.args.at in
    rw (c.new-head.ensures, c.value-period.ensures, c.value-modes.ensures, c.value-tasks.ensures) (record { at_bound = c.requires; head_value = refl; modes_bound = modes-small image at; tasks_bound = tasks-small image at })
