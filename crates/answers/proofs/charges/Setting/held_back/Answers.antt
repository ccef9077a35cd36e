-- The held-back sum of candidate c in mode m stands in two cells. Assumes nothing.
use native.Mathlib.Omega.{arith}
use Rattle.answers.proofs.Readings.{sum-at}
use Rattle.answers.proofs.charges.Setting.held_back.Goals as goal

pub returns : goal.returns
returns c =
    let setting = c.self.invariant.0 in
    rw (← c.self.view_is)
    (omega (arith, c.from.ensures, c.from-2.ensures, sum-at setting.lent setting.split setting.subject setting.mode setting.is_task))
