use Rattle.page.proofs.Whole.{whole-writes}
use Rattle.page.proofs.sheet.Sheet.fill.Goals as goal

pub returns : goal.returns
returns c = whole-writes _ _ _ c.loop-b.invariant c.state-2.ensures
