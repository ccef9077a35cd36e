-- `State::rounds` meets its contract: a turn is a round, by the constant and the word at its place.
use Rattle.std.proofs.Common.{length-append, add-one, rules}
use Rattle.std.proofs.lemmas.Slice.Zip.{zip_turn}
use Rattle.sha256.specs.Constants.{K}
use Rattle.sha256.specs.Sum.{rounds}
use Rattle.sha256.proofs.State.rounds.Goals as goal

pub loop-k-preserved : goal.loop-k-preserved
unfolding rounds K
loop-k-preserved c =
    let turn =
    zip_turn K c.args.w.now c.loop-k.yielded c.into_iter-k-iterator.result c.loop-k.k-iterator c.next.new.self c.next.result (search rules) (search rules) c.loop-k.yielded_by (c.in-Some.k, c.in-Some.w) c.in-Some.is c.next.ensures.steps in
    rw (c.round-s.ensures, turn.2 0, turn.3 0, c.loop-k.invariant, length-append, add-one)
