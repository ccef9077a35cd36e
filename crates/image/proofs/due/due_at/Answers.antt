-- `due::due_at` meets its contract.
use Rattle.image.proofs.DueAt.{spot-small, spot-due}
use Rattle.image.proofs.due.due_at.Goals as goal

pub invariant_of-task : goal.invariant_of-task
invariant_of-task c =
    let small = spot-small (rw c.in_ok-at.was at c.task_at.ensures) in record { at_bound = small.0; modes_bound = small.1 }

pub returns : goal.returns
returns c = rw (c.greatest_time.ensures, c.body-body.ensures) (spot-due (rw c.in_ok-at.was at c.task_at.ensures))
