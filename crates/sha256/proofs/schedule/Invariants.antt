use Rattle.std.proofs.Common.{◌≡◌, length, take}
use Rattle.sha256.specs.Message.{padded}
use Rattle.sha256.specs.Sum.{schedule}
use Rattle.sha256.proofs.schedule.Given as goal

abbrev pub invariant-loop-t : goal.invariant-loop-t
invariant-loop-t l = (length l.w ≡ 64) × (take l.t l.w ≡ schedule (padded l.bytes) l.i l.t)
