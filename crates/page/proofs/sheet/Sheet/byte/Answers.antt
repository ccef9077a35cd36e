use Rattle.page.proofs.Whole.{whole-writes}
use Rattle.page.proofs.sheet.Sheet.byte.Goals as goal

pub returns : goal.returns
returns c = whole-writes _ _ _ c.in_ok-state.ensures c.state-2.ensures
