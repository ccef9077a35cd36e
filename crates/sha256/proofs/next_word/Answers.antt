-- `sha256::next_word` meets its contract: one of the block's own words, or one by those before it.
use Rattle.std.proofs.Common.{le-ltb, lt-ltb}
use Rattle.sha256.specs.Words.{σ0, σ1, rotr}
use Rattle.sha256.specs.Sum.{next_word}
use Rattle.sha256.proofs.next_word.Goals as goal

pub returns-then-t-lt-OWN : goal.returns-then-t-lt-OWN
unfolding next_word
returns-then-t-lt-OWN c = rw (lt-ltb _ _ c.if-t-lt-OWN.true) c.word.ensures

pub returns : goal.returns
unfolding next_word σ0 σ1 rotr
returns c = rw (le-ltb _ _ c.if-t-lt-OWN.false) cc
