use Rattle.std.proofs.Common.{◌≡◌}
use Rattle.sha256.specs.Message.{padded}
use Rattle.sha256.specs.Sum.{hash}
use Rattle.sha256.proofs.sum.Given as goal

abbrev pub invariant-loop-i : goal.invariant-loop-i
invariant-loop-i l = l.s ≡ hash (padded l.bytes) l.i
