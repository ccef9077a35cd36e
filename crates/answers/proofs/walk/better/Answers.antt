-- `better` meets its contract, by its test.
use mathlib.Core.Path.{sym}
use native.Mathlib.Omega.{arith}
use Rattle.answers.specs.Turn.{best_meant}
use Rattle.answers.proofs.Walks.{better-later, better-first}
use Rattle.answers.proofs.walk.better.Goals as goal

pub returns-then-x-y : goal.returns-then-x-y
unfolding best_meant
returns-then-x-y c =
    let a = c.args in
    sym (better-later (best_meant a.x) (best_meant a.y) (omega (arith, c.if-x-y.true)))

pub returns-else-x-y : goal.returns-else-x-y
unfolding best_meant
returns-else-x-y c =
    let a = c.args in
    sym (better-first (best_meant a.x) (best_meant a.y) (omega (arith, c.if-x-y.false)))
