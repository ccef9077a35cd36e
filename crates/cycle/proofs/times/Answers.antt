-- The quotient, where there is one. Assumes nothing.
use mathlib.Core.Path.{◌∙◌}
use Rattle.cycle.proofs.Fit.{quotient-or-none}
use Rattle.cycle.proofs.times.Goals as goal

pub returns : goal.returns
returns c = c.unwrap_or.ensures ∙ quotient-or-none _ _ _ c.checked_div.ensures
