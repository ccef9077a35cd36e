-- `task_at` meets its contract: the task by what the whole tasks before it leave of the place.
use native.Mathlib.Omega.{arith}
use Rattle.places.proofs.Walk.{owned-small}
use Rattle.places.proofs.Spots.{no-task-in-header, no-task-behind, no-task-in-head, task-spot}
use Rattle.places.proofs.task_at.Goals as goal

pub returns-then-place-lt-FIRST_AT : goal.returns-then-place-lt-FIRST_AT
returns-then-place-lt-FIRST_AT c = no-task-in-header _ _ c.if-place-lt-FIRST_AT.true

pub returns-in_err-owner : goal.returns-in_err-owner
returns-in_err-owner c = rw c.from_residual.ensures (no-task-behind _ _ c.in_err-owner.ensures)

pub returns-in_err-inner : goal.returns-in_err-inner
returns-in_err-inner c = rw c.from_residual-in_err-inner.ensures (no-task-in-head _ _ c.in_ok-owner.ensures (omega (arith, c.in_err-inner.ensures)))

pub task_width-requires : goal.task_width-requires
task_width-requires c = (owned-small _ _ c.in_ok-owner.ensures).1

pub returns : goal.returns
returns c =
    let inner = c.in_ok-inner.ensures in
    rw (inner.1, c.task_width.ensures) (task-spot _ _ c.in_ok-owner.ensures inner.0)
