-- `made` gives the parts of the bound that the subject's answer is explained by, and no bound where that answer is none.
use Rattle.parts.specs.Parts.{MadeFor}
use Rattle.answers.proofs.Pushing.{right, made-bounded}
use Rattle.answers.proofs.pushed.made.Goals as goal

pub returns-in_err-bounded : goal.returns-in_err-bounded
returns-in_err-bounded c =
    rw c.from_residual.ensures
    (MadeFor.unbounded (right c.requires.lent.table.kept c.requires.subject.chosen.is_task c.explain.ensures.told) (rw c.in_err-bounded.was at c.explain.ensures.why))

pub returns : goal.returns
returns c =
    made-bounded c.requires.lent.table.kept c.requires.subject.chosen.is_task c.explain.ensures.told (rw c.in_ok-bounded.was at c.explain.ensures.why)
