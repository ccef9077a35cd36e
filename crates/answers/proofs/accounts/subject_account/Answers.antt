-- `subject_account` tells the cells of the answer, and of a bound its parts and who charges what in it.
use Rattle.std.proofs.Common.{◌∙◌}
use Rattle.row.proofs.Fields.{read-deadline}
use Rattle.account.specs.Account.{laid_for}
use Rattle.answers.specs.Turn.{source_meant}
use Rattle.answers.proofs.Accounted.{account-unbounded, account-bounded}
use Rattle.answers.proofs.accounts.subject_account.Goals as goal

pub put_shares-requires : goal.put_shares-requires
unfolding source_meant
put_shares-requires c =
    let gives = rw c.in-Some.is at c.explain-explained.ensures.why in
    let setting = gives.made.by.first.gives.setting in
    rw c.in-Some.field-0-is (record { lent = c.requires.lent; subject = c.requires.subject; mode_bound = setting.mode; candidate_bound = setting.place })

pub returns-in-None : goal.returns-in-None
returns-in-None c =
    let due = c.deadline-deadline.ensures ∙ rw c.number.ensures (read-deadline c.requires.lent.table c.requires.subject.chosen.is_task) in
    account-unbounded c.requires.lent.table.kept c.requires.subject.chosen.is_task c.explain-explained.result.answer due c.cells-told.ensures c.explain-explained.ensures.told (rw c.in-None.is at c.explain-explained.ensures.why)

pub returns-in-Some : goal.returns-in-Some
unfolding laid_for
returns-in-Some c =
    let due = c.deadline-deadline.ensures ∙ rw c.number.ensures (read-deadline c.requires.lent.table c.requires.subject.chosen.is_task) in
    rw c.in-Some.field-0-is
    (account-bounded c.requires.lent.table.kept c.requires.subject.chosen.is_task c.explain-explained.result.answer due c.cells-told.ensures c.explain-explained.ensures.told (rw c.in-Some.is at c.explain-explained.ensures.why)
    (rw (c.put_charges.ensures, c.in-Some.field-0-is) at c.put_shares.ensures))
