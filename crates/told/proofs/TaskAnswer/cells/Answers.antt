-- `TaskAnswer::cells` gives document 01's cells of each answer: the test against the deadline is the one that decides between 0
-- and 20.
use mathlib.Core.Path.{sym}
use native.Mathlib.Omega.{arith}
use Rattle.analysis.specs.Answer.{cells}
use Rattle.told.specs.Answered.{named_meant, meant}
use Rattle.told.proofs.Answered.{kept-cells, late-cells}
use Rattle.told.proofs.TaskAnswer.cells.Goals as goal
use Rattle.told.proofs.TaskAnswer.cells.Goals.{then-bound-deadline, else-bound-deadline}

pub returns-after-bound-deadline : goal.returns-after-bound-deadline
unfolding meant
returns-after-bound-deadline c =
    let x = c.in-Bound in
    let by = named_meant x.by in
    rw (c.from.ensures, x.is)
    (elim c.if-bound-deadline.branch [
      | then-bound-deadline w ↦ rw w.code-is (sym (kept-cells x.bound x.evaluations by c.args.deadline (omega (arith, w.if-bound-deadline.true))))
      | else-bound-deadline w ↦ rw w.code-is (sym (late-cells x.bound x.evaluations by c.args.deadline (omega (arith, w.if-bound-deadline.false))))
    ])

pub returns-in-Overload : goal.returns-in-Overload
unfolding cells meant
returns-in-Overload c = rw c.in-Overload.is c.unbounded.ensures

pub returns-in-Beyond : goal.returns-in-Beyond
unfolding cells meant
returns-in-Beyond c = rw c.in-Beyond.is c.unbounded-in-Beyond.ensures

pub returns-in-Spent : goal.returns-in-Spent
unfolding cells meant
returns-in-Spent c = rw c.in-Spent.is c.unbounded-in-Spent.ensures
