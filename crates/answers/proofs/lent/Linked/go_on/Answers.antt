-- The chain stays as it is but where it has come whole frames from its mark.
use Rattle.std.proofs.Common.{arith}
use Rattle.answers.proofs.Cycles.{stays, whole-frames}
use Rattle.answers.proofs.lent.Linked.go_on.Goals as goal

pub overflow_add-mark : goal.overflow_add-mark
overflow_add-mark c = omega (arith, c.requires.instant.kept.frame)

pub nonzero_rem-t : goal.nonzero_rem-t
nonzero_rem-t c = omega (arith, c.requires.instant.kept.frame)

pub returns-then-t-mark : goal.returns-then-t-mark
returns-then-t-mark c = stays _ c.requires.met_2 c.requires.met

pub after_frames-requires-clause-whole_frames : goal.after_frames-requires-clause-whole_frames
after_frames-requires-clause-whole_frames c = whole-frames c.requires.frame_value (omega arith) c.if-t-mark-eq0.true

pub returns : goal.returns
returns c = stays _ c.requires.met_2 c.moved.ensures
