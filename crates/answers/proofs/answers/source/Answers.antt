-- `source` gives back what `named` tells: the candidate's place is its number less that of the first task.
use Rattle.std.proofs.Common.{◌≡◌, ◌+◌, ◌-◌, arith}
use Rattle.row.specs.Row.{table_of}
use Rattle.table.specs.Number.{before, number}
use Rattle.analysis.specs.Answer.{named}
use Rattle.answers.specs.Turn.{source_meant}
use Rattle.answers.proofs.answers.source.Goals as goal

pub overflow_sub-result : goal.overflow_sub-result
overflow_sub-result c = omega (arith, c.before-2.ensures, c.requires.u_bound_2)

pub returns : goal.returns
unfolding named number source_meant
returns c =
    let place : before (table_of c.args.work.now) c.args.u + (c.args.by.candidate - c.before-2.result) ≡ c.args.by.candidate = omega (arith, c.before-2.ensures, c.requires.u_bound_2) in
    λ i. record { mode = c.args.by.mode; candidate = place i; job = c.from.ensures i }
