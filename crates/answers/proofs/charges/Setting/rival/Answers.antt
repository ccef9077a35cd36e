-- A task that weighs nothing changes nothing; any other is a rival, and its charge is taken where there is none yet, or a smaller one.
-- Assumes nothing.
use mathlib.Core.Path.{sym, ◌∙◌}
use Rattle.row.specs.Row.{table_of}
use Rattle.answers.specs.Who.{most_said}
use Rattle.answers.proofs.Most.{most-weightless, most-first, most-greater, most-no-greater}
use native.Mathlib.Omega.{arith}
use Rattle.answers.proofs.charges.Setting.rival.Goals as goal

pub returns-then-weight-eq0 : goal.returns-then-weight-eq0
returns-then-weight-eq0 c =
    let y = c.self.inside in
    rw (← c.self.view_is)
    (sym (most-weightless (table_of y.work.now) y.s.u y.s.a y.i y.m y.c (most_said c.args.most) _ _ (sym c.weight.ensures ∙ c.if-weight-eq0.true)))

pub returns-in-None : goal.returns-in-None
unfolding most_said
returns-in-None c =
    let y = c.self.inside in
    rw (c.in-None.is, c.charge.ensures, ← c.self.view_is)
    (sym (most-first (table_of y.work.now) y.s.u y.s.a y.i y.m y.c (λ e. c.if-weight-eq0.false (c.weight.ensures ∙ e)) _ _))

pub returns-then-first-this : goal.returns-then-first-this
unfolding most_said
returns-then-first-this c =
    let y = c.self.inside in
    let ticks = rw (← c.self.view_is) at c.charge.ensures in
    rw (c.in-Some.is, c.charge.ensures, ← c.self.view_is)
    (sym (most-greater (table_of y.work.now) y.s.u y.s.a y.i y.m y.c (λ e. c.if-weight-eq0.false (c.weight.ensures ∙ e)) _ _ _ _ (omega arith)))

pub returns-else-first-this : goal.returns-else-first-this
unfolding most_said
returns-else-first-this c =
    let y = c.self.inside in
    let ticks = rw (← c.self.view_is) at c.charge.ensures in
    rw (c.in-Some.is, ← c.self.view_is)
    (sym (most-no-greater (table_of y.work.now) y.s.u y.s.a y.i y.m y.c (λ e. c.if-weight-eq0.false (c.weight.ensures ∙ e)) _ _ _ _ (omega arith)))
