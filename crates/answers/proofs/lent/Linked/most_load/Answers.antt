-- The loop keeps the greatest load of the modes before m that count. Assumes nothing.
use mathlib.Core.Path.{◌≡◌, refl, ap}
use native.Mathlib.Omega.{arith}
use Rattle.table.specs.Table.{modes}
use Rattle.analysis.specs.Overload.{most_load}
use Rattle.answers.specs.Analysed.{Analysed}
use Rattle.analysis.specs.Choice.{most}
use Rattle.charge.proofs.Ranges.{most-next}
use Rattle.answers.proofs.lent.Linked.most_load.Goals as goal

pub loop-m-init : goal.loop-m-init
unfolding most
loop-m-init c = refl

pub loop-m-preserved : goal.loop-m-preserved
loop-m-preserved c = rw most-next (cc)

pub returns : goal.returns
unfolding most_load
returns c =
    let count = rw (ap (λ (v : Analysed). v.tab) c.self.view_is) at c.modes-count.ensures in
    let all : c.loop-m.m ≡ modes c.args.self.now.tab c.args.i = omega arith in
    cc
