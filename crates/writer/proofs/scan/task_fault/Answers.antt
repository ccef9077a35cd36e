-- `scan::task_fault` meets its contract. That a task runs is asked of its greatest time, and of the sum of its times in the rule.
use Rattle.std.proofs.Common.{rules}
use Rattle.table.specs.Rules.{task_rules}
use Rattle.table.proofs.Sum.{greatest-some}
use Rattle.refusals.specs.Answer.{checked}
use Rattle.refusals.proofs.Findings.{joining}
use Rattle.row.specs.Row.{time_cell}
use Rattle.writer.proofs.scan.task_fault.Goals as goal

pub returns-in_err-times : goal.returns-in_err-times
unfolding joining task_rules checked time_cell
returns-in_err-times c =
    let t = c.args.task in
    let runs = greatest-some t.modes (time_cell t.row.now t.number) in
    search rules

pub returns : goal.returns
unfolding joining task_rules checked time_cell
returns c =
    let t = c.args.task in
    let runs = greatest-some t.modes (time_cell t.row.now t.number) in
    search rules
