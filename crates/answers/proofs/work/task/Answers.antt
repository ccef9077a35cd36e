-- `task` takes a number apart: the transaction of the task is in the row, and its place there is what the number has beyond the
-- tasks of the transactions before.
use mathlib.Core.Path.{sym, ap, ◌∙◌}
use Prim.Native.Nat.{ℕ}
use Rattle.row.specs.Row.{priority_cell, body_cell}
use Rattle.row.proofs.Fields.{read-priority}
use Rattle.answers.proofs.Filling.{found}
use Rattle.answers.proofs.work.task.Goals as goal

pub overflow_sub-a : goal.overflow_sub-a
overflow_sub-a c = (found c.requires.row_of_table c.requires.k_bound c.owner-u.ensures c.first.ensures).0

pub returns : goal.returns
returns c =
    let table = c.requires.row_of_table in
    let (is, numbered) = (found table c.requires.k_bound c.owner-u.ensures c.first.ensures).1 in
    let priority =
    c.priority.ensures
    ∙ ap (λ (n : ℕ). body_cell c.args.work.now n priority_cell) (sym numbered)
    ∙ read-priority table is in
    record { chosen = record { is_task = is; priority = priority }; numbered = numbered }
