-- An urgent task counts with its time, and any other with 0. Assumes nothing.
use mathlib.Core.Path.{sym, ◌∙◌}
use native.Mathlib.Omega.{arith}
use Rattle.analysis.proofs.Choice.{when-yes, when-no}
use Rattle.answers.proofs.lent.Linked.urgent_time.Goals as goal

pub returns-then-priority-self : goal.returns-then-priority-self
returns-then-priority-self c = rw (← c.self.view_is) (sym (when-no _ _ (λ h. omega arith)))

pub returns-else-priority-self : goal.returns-else-priority-self
returns-else-priority-self c = rw (← c.self.view_is) (c.time.ensures ∙ sym (when-yes _ _ (omega arith)))
