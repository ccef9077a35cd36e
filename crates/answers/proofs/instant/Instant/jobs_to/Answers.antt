-- Both job numbers are small, so that p − first + 1 is a word.
use Rattle.answers.proofs.Signed.{jobs-word}
use Rattle.answers.proofs.instant.Instant.jobs_to.Goals as goal

pub returns : goal.returns
returns c = jobs-word c.args.p.number c.args.self.first.number c.args.p.near c.args.self.first.near c.max.ensures.value c.max.type_inv
