use mathlib.Core.Path.{◌≡◌}
use Rattle.analysis.specs.Who.{in_mode}
use Rattle.charge.specs.Later.{later_of}
use Rattle.answers.specs.Split.{moment}
use Rattle.answers.specs.Who.{most_said}
use Rattle.answers.proofs.lent.Linked.mode.Given as goal

abbrev pub invariant-loop-c : goal.invariant-loop-c
invariant-loop-c l = most_said l.most ≡ in_mode (later_of l.whole) l.self.tab l.self.u l.self.a l.i (moment l.x) l.m l.c (most_said l.initial.most)
