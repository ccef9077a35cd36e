-- `field_at` meets its contract: a field of the header, of the transaction that the place lies in, or none.
use Rattle.places.specs.Held.Held.{behind}
use Rattle.places.proofs.Walk.{owned-small}
use Rattle.places.proofs.Answer.{held-header, held-owned}
use Rattle.places.proofs.field_at.Goals as goal

pub returns-then-place-lt-FIRST_AT : goal.returns-then-place-lt-FIRST_AT
returns-then-place-lt-FIRST_AT c = rw c.in_header.ensures (held-header _ _ c.if-place-lt-FIRST_AT.true)

pub overflow_sub-place : goal.overflow_sub-place
overflow_sub-place c = (owned-small _ _ c.in-Some.ensures).2

pub in_transaction-requires : goal.in_transaction-requires
in_transaction-requires c =
    let small = owned-small _ _ c.in-Some.ensures in
    record { before_bound = small.0; modes_bound = small.1; rest_bound = small.3 }

pub returns-in-Some : goal.returns-in-Some
returns-in-Some c = rw c.in_transaction.ensures (held-owned _ _ c.in-Some.ensures)

pub returns-in-None : goal.returns-in-None
returns-in-None c = behind c.in-None.ensures
