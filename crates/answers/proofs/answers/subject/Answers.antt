-- `subject` makes the work cells those of the task with that number.
use mathlib.Core.Path.{sym, ◌∙◌, subst}
use Rattle.table.specs.Table.{Table}
use Rattle.answers.specs.Work.{Chosen}
use Rattle.answers.proofs.answers.subject.Goals as goal

pub link-requires : goal.link-requires
link-requires c =
    let w = c in
    let t = w in
    let lent = w.weigh.ensures.lent_2 in let table = w.weigh.ensures.work_unchanged in let weighs = w.weigh.ensures.weighs in record { lent = lent; chosen = subst (λ (x : Table). Chosen x t.task-s.result) (sym table) t.task-s.ensures.chosen; weighs = weighs }

pub returns : goal.returns
returns c =
    let w = c in
    let t = w in
    let lent = c.link.ensures.lent_2 in let table = c.link.ensures.work_unchanged in let subject = c.link.ensures.subject in record { subject_at = t.task-s.ensures; lent_2 = lent; work_unchanged = table ∙ w.weigh.ensures.work_unchanged; subject = subject }
