-- `task_cells` gives the cells of the answer of the task with that number, by that task's deadline.
use mathlib.Core.Path.{◌≡◌, sym, ap, ap₂, ◌∙◌, subst}
use Rattle.table.specs.Table.{Table, IsTask, deadline}
use Rattle.row.specs.Row.{table_of}
use Rattle.row.proofs.Fields.{read-deadline}
use Rattle.periods.specs.Charge.{imposed}
use Rattle.analysis.specs.Answer.{cells}
use Rattle.analysis.specs.Walk.{answer}
use Rattle.told.specs.Answered.{cells_meant}
use Rattle.told.specs.Told.{Owed}
use Rattle.told.proofs.Told.{owed}
use Rattle.answers.proofs.answers.task_cells.Goals as goal

pub returns : goal.returns
returns c =
    let y = c in
    let l = y in
    let x = l in
    let s = l.subject-s.result in
    let tab = table_of x.args.work.now in
    let budget = x.args.budget in
    let named = l.subject-s.ensures.subject_at in let lent = l.subject-s.ensures.lent_2 in let table = l.subject-s.ensures.work_unchanged in let subject = l.subject-s.ensures.subject in
    let due : c.deadline.result ≡ deadline tab s.u s.a =
    c.deadline.ensures
    ∙ rw (← named.numbered, ← table)
    (read-deadline lent.table (subst (λ (z : Table). IsTask z s.u s.a) (sym table) named.chosen.is_task)) in
    let is : cells_meant c.cells.result ≡ cells (deadline tab s.u s.a) (answer imposed tab s.u s.a budget) =
    c.cells.ensures
    ∙ ap₂ cells due (y.answer.ensures ∙ ap (λ (z : Table). answer imposed z s.u s.a budget) table) in record {
      owed_at = record {
        u = s.u;
        a = s.a;
        is_task = named.chosen.is_task;
        numbered = named.numbered;
        owed = subst (Owed tab s.u s.a budget) (sym is) (owed x.requires.lent.table.kept named.chosen.is_task budget);
      };
      lent_2 = lent;
      work_unchanged = table;
    }
