-- The loop keeps the greatest charge of the modes before m. Assumes nothing.
use mathlib.Core.Path.{◌≡◌, refl, ap}
use native.Mathlib.Omega.{arith}
use Rattle.table.specs.Table.{modes}
use Rattle.analysis.specs.Who.{in_modes, most_charged}
use Rattle.answers.specs.Analysed.{Analysed}
use Rattle.answers.specs.Who.{most_said}
use Rattle.answers.proofs.Most.{in-modes-next}
use Rattle.answers.proofs.lent.Linked.most_charged.Goals as goal

pub loop-m-init : goal.loop-m-init
unfolding most_said in_modes
loop-m-init c = refl

pub loop-m-preserved : goal.loop-m-preserved
loop-m-preserved c = rw (in-modes-next, ← c.loop-m.invariant) c.mode-most.ensures

pub returns : goal.returns
unfolding most_charged
returns c =
    let count = rw (ap (λ (v : Analysed). v.tab) c.self.view_is) at c.modes-count.ensures in
    let all : c.loop-m.m ≡ modes c.args.self.now.tab c.args.i = omega arith in
    rw (← all, ← c.split_of-x.ensures.at) c.loop-m.invariant
