-- The completion plus the jitter, or 32.
use Rattle.std.proofs.Common.{subst, arith}
use Rattle.jitter.specs.Plain.{response_of}
use Rattle.jitter.proofs.Ranges.{jitter-small}
use Rattle.beside.specs.Search.{Finds}
use Rattle.beside.specs.Told.{RespondsFrom}
use Rattle.beside.proofs.Ways.{found_at, found_nothing}
use Rattle.beside.proofs.response_of.Goals as goal

pub overflow_add-result : goal.overflow_add-result
overflow_add-result c =
    let x = c.args.task in
    let (done, low) = found_at (subst (Finds _ _) c.in-Some.is c.search.ensures) in
    omega (arith, low, c.jitter.ensures, jitter-small x.single_row.table.kept x.single_row.single x.owner)

pub returns-in-Some : goal.returns-in-Some
unfolding response_of
returns-in-Some c =
    let (done, low) = found_at (subst (Finds _ _) c.in-Some.is c.search.ensures) in
    rw c.jitter.ensures (RespondsFrom.completes done low)

pub returns-in-None : goal.returns-in-None
returns-in-None c = RespondsFrom.never (found_nothing (subst (Finds _ _) c.in-None.is c.search.ensures))
