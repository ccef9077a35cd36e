-- The comparison is the flag of the decision. Assumes nothing.
use mathlib.Core.Path.{ap}
use Rattle.analysis.specs.Overload.{overload?}
use Rattle.answers.specs.Analysed.{Analysed}
use Rattle.answers.proofs.Flags.{tested-lt}
use Rattle.answers.proofs.lent.Linked.is_overload.Goals as goal

pub returns : goal.returns
returns c =
    let v = c.args.self.now in
    let frame = rw (ap (λ (v : Analysed). v.tab) c.self.view_is) at c.frame.ensures in
    rw (frame, c.frame_demand.ensures) (tested-lt _ _ (overload? v.tab v.u v.a))
