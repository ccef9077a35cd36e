-- `answer` is overload, or what the walk from no evaluations and no response comes to. A bound fits 32 bits since no bound
-- is above 50,331,645; so do the mode and the job, since who gave it is one of the walk.
use Rattle.std.proofs.Common.{sym, ap, ◌∙◌, arith}
use Rattle.row.specs.Row.{table_of}
use Rattle.table.proofs.Ranges.{modes-few}
use Rattle.analysis.specs.Answer.{bound}
use Rattle.told.specs.Answered.{meant}
use Rattle.answers.proofs.Answered.{overload-answer, walk-answer, walk-bound-most, walk_source}
use Rattle.answers.proofs.answers.answer.Goals as goal

pub returns-then-is_overload : goal.returns-then-is_overload
returns-then-is_overload c = overload-answer _ _ _ _ (sym c.is_overload.ensures ∙ c.if-is_overload.true)

pub overflow_cast-result : goal.overflow_cast-result
overflow_cast-result c =
    let a = c.args in
    let kept = c.requires.lent.table.kept in
    let is_task = c.requires.subject.chosen.is_task in
    let came = walk-answer _ _ _ _ (sym c.is_overload.ensures ∙ c.if-is_overload.false) c.new.ensures.0 c.new.ensures.1 (sym c.in-Ok.is ∙ c.modes.ensures) in
    omega (arith, walk-bound-most (table_of a.work.now) a.s.u a.s.a a.budget kept is_task came)

pub named-requires : goal.named-requires
named-requires c =
    let a = c.args in
    let kept = c.requires.lent.table.kept in
    let is_task = c.requires.subject.chosen.is_task in
    let came = walk-answer _ _ _ _ (sym c.is_overload.ensures ∙ c.if-is_overload.false) c.new.ensures.0 c.new.ensures.1 (sym c.in-Ok.is ∙ c.modes.ensures) in
    let (setting, few) = walk_source (table_of a.work.now) a.s.u a.s.a a.budget kept is_task c.in-Ok.field-0.best.source came in
    record {
      lent = c.requires.lent;
      task = record { owner = is_task.owner; place = setting.place };
      mode_bound = omega (arith, setting.mode, modes-few kept is_task.owner);
      job_bound = omega (arith, few);
    }

pub returns-in-Ok : goal.returns-in-Ok
unfolding meant
returns-in-Ok c =
    let best = c.in-Ok.field-0.best in
    ap (bound best.response.0 c.in-Ok.field-0.used) c.named.ensures
    ∙ walk-answer _ _ _ _ (sym c.is_overload.ensures ∙ c.if-is_overload.false) c.new.ensures.0 c.new.ensures.1 (sym c.in-Ok.is ∙ c.modes.ensures)

pub returns-in-Err-Past : goal.returns-in-Err-Past
unfolding meant
returns-in-Err-Past c =
    rw c.in-Err-Past.used-is
    (walk-answer _ _ _ _ (sym c.is_overload.ensures ∙ c.if-is_overload.false) c.new.ensures.0 c.new.ensures.1 (sym (rw c.in-Err-Past.field-0-is at c.in-Err-Past.is) ∙ c.modes.ensures))

pub returns-in-Err-Short : goal.returns-in-Err-Short
unfolding meant
returns-in-Err-Short c =
    walk-answer _ _ _ _ (sym c.is_overload.ensures ∙ c.if-is_overload.false) c.new.ensures.0 c.new.ensures.1 (sym (rw c.in-Err-Short.field-0-is at c.in-Err-Short.is) ∙ c.modes.ensures)
