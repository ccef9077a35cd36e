-- The bound, the offset and the arrival are small, so that each step is a word.
use Rattle.answers.proofs.Signed.{completes-word}
use Rattle.answers.proofs.instant.Instant.completion.Goals as goal

pub returns : goal.returns
returns c = rw c.from.ensures (completes-word _ _ _ c.ranges.bound.fits c.args.self.offset_bound c.requires.arrives_bound c.requires.t)
