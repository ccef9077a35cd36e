-- The task itself is a candidate, and another is one where it weighs something.
use Rattle.answers.proofs.Walks.{candidate-own, candidate-weighs}
use Rattle.answers.proofs.lent.Linked.is_candidate.Goals as goal

pub returns-then-c-self : goal.returns-then-c-self
returns-then-c-self c = rw (← c.self.view_is) (candidate-own _ _ _ _ _ c.if-c-self.true)

pub returns-else-c-self : goal.returns-else-c-self
returns-else-c-self c = rw (← c.self.view_is) (candidate-weighs _ _ _ _ _ c.if-c-self.false c.weight.ensures)
