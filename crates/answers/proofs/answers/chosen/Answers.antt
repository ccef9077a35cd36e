-- The task of that number, of the prepared work cells, or 13.
use Rattle.std.proofs.Common.{refl, ◌∙◌, arith}
use Rattle.parts.specs.Parts.{OfTask}
use Rattle.answers.proofs.answers.chosen.Goals as goal

pub subject-requires : goal.subject-requires
subject-requires c =
    let table = c.prepare.ensures.work_unchanged in record { lent = c.prepare.ensures.lent; k_bound = rw table (omega (arith, c.if-in_all-task.false, c.in_all.ensures)) }

pub returns-then-in_all-task : goal.returns-then-in_all-task
returns-then-in_all-task c = OfTask.unknown (omega (arith, c.if-in_all-task.true, c.in_all.ensures))

pub returns : goal.returns
returns c =
    let table = c.prepare.ensures.work_unchanged in
    let s = c.subject.ensures in
    let named = rw table at s.subject_at in
    OfTask.known named.chosen.is_task named.numbered
    (record { table = s.work_unchanged ∙ table; lent = s.lent_2; subject = s.subject; is = (refl, refl) })
