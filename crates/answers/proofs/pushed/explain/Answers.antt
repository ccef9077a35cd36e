-- `explain` gives the answer, and the parts of the bound where it is one.
use Rattle.std.proofs.Common.{sym, ap, ◌∙◌}
use Rattle.row.specs.Row.{table_of}
use Rattle.analysis.specs.Answer.{bound}
use Rattle.analysis.proofs.Charges.{imposed-fair}
use Rattle.analysis.proofs.Answer.{answer-by}
use Rattle.told.specs.Answered.{meant}
use Rattle.answers.specs.Turn.{source_meant}
use Rattle.answers.proofs.Answered.{named-from, answer-source}
use Rattle.answers.proofs.Pushing.{no_bound}
use Rattle.answers.proofs.pushed.explain.Goals as goal

pub returns-in_default : goal.returns-in_default
returns-in_default c = record { told = c.answer-answer.ensures; why = no_bound c.answer-answer.result c.in_default.not-Bound }

pub source-by-requires-clause-u_bound_2 : goal.source-by-requires-clause-u_bound_2
unfolding meant
source-by-requires-clause-u_bound_2 c =
    let told = ap meant (sym c.in-Bound.is) ∙ c.answer-answer.ensures in
    let (x, e, by) = answer-by c.requires.lent.table.kept c.requires.subject.chosen.is_task imposed-fair c.args.budget (sym told) in
    named-from (table_of c.args.work.now) c.args.s.u x e

pub parts_of-parts-requires-clause-bound_by : goal.parts_of-parts-requires-clause-bound_by
unfolding meant
parts_of-parts-requires-clause-bound_by c =
    let told = ap meant (sym c.in-Bound.is) ∙ c.answer-answer.ensures in
    answer-source (table_of c.args.work.now) c.args.s.u c.args.s.a c.args.budget c.requires.lent.table.kept c.requires.subject.chosen.is_task (source_meant c.source-by.result)
    (ap (bound c.in-Bound.bound c.in-Bound.field-1) c.source-by.ensures ∙ told)

pub returns : goal.returns
unfolding meant
returns c =
    let told = ap meant (sym c.in-Bound.is) ∙ c.answer-answer.ensures in
    record {
      told = told;
      why = record { R = c.in-Bound.bound; n = c.in-Bound.field-1; is = sym (ap (bound c.in-Bound.bound c.in-Bound.field-1) c.source-by.ensures); made = c.parts_of-parts.ensures };
    }
