-- `named` meets its contract: a candidate's number fits a cell since no table has that many tasks.
use native.Mathlib.Omega.{arith}
use Rattle.table.proofs.Number.{number_lt}
use Rattle.row.specs.Row.{table_of}
use Rattle.analysis.specs.Answer.{named}
use Rattle.answers.specs.Turn.{source_meant}
use Rattle.answers.proofs.answers.named.Goals as goal

pub number-requires : goal.number-requires
number-requires c =
    let lent = c.requires.lent in let is_task = c.requires.task in record { row_of_table = lent.table; task = is_task }

pub overflow_cast-result-2 : goal.overflow_cast-result-2
overflow_cast-result-2 c =
    let s = c in
    let lent = s.requires.lent in let is_task = s.requires.task in
    omega (arith, c.number.ensures, number_lt (table_of s.args.work.now) is_task, lent.table.kept.few_tasks)

pub returns : goal.returns
unfolding named source_meant
returns c =
    let x = c.args.x in
    λ i. record { mode = x.mode; candidate = c.number.ensures i; job = x.job.0 }
