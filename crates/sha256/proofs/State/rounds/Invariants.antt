use Rattle.std.proofs.Common.{◌≡◌, length}
use Rattle.sha256.specs.Sum.{rounds}
use Rattle.sha256.proofs.State.rounds.Given as goal

abbrev pub invariant-loop-k : goal.invariant-loop-k
invariant-loop-k l = l.s ≡ rounds l.w (length l.yielded) l.initial.s
