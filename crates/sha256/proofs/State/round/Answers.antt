-- `State::round` meets its contract: each call is one of the definition's rotations or additions.
use Rattle.sha256.specs.Words.{Ch, Maj, Σ0, Σ1, rotr}
use Rattle.sha256.specs.Sum.{round, T1, T2}
use Rattle.sha256.proofs.State.round.Goals as goal

pub returns : goal.returns
unfolding round T1 T2 Ch Maj Σ0 Σ1 rotr
returns c = cc
