-- No cycle is counted where there is no room for one, or the load is not one; else as many as there is room for.
use Rattle.std.proofs.Common.{ap, sym, ◌∙◌}
use Rattle.answers.specs.Analysed.{Analysed}
use Rattle.answers.proofs.Cycles.{stays, counted}
use Rattle.answers.proofs.lent.Linked.after_frames.Goals as goal

pub returns-then-room-far : goal.returns-then-room-far
returns-then-room-far c = stays _ c.requires.met_2 c.requires.met_2

pub returns-in_default : goal.returns-in_default
returns-in_default c = stays _ c.requires.met_2 c.requires.met_2

pub returns : goal.returns
returns c =
    let turn = c.requires.instant in
    let full = sym c.frame_demand.ensures ∙ c.if-frame_demand-frame.false ∙ c.frame.ensures ∙ ap (λ (v : Analysed). v.tab.frame) c.self.view_is in
    let cycle = rw c.in-Some.is at c.cycle_from.ensures in
    rw c.from-2.ensures
    (counted c.requires.instant.kept c.requires.instant.is_task turn.setting full (c.from.ensures ∙ c.horizon.ensures) c.requires.met_2 c.requires.whole_frames cycle c.rounds-rounds.ensures)
