use mathlib.Core.Path.{◌≡◌}
use Rattle.analysis.specs.Who.{in_modes}
use Rattle.charge.specs.Later.{later_of}
use Rattle.answers.specs.Split.{moment}
use Rattle.answers.specs.Who.{most_said}
use Rattle.answers.proofs.lent.Linked.most_charged.Given as goal

abbrev pub invariant-loop-m : goal.invariant-loop-m
invariant-loop-m l = most_said l.most ≡ in_modes (later_of l.whole) l.self.tab l.self.u l.self.a l.i (moment l.x) l.m
