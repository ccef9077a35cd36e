-- One name that opens every definition of this crate, so that what is stated of a given table computes.
use Rattle.table.specs.Sum.{sum, greatest}
use Rattle.table.specs.Table.{
  transactions,
  transaction,
  period,
  modes,
  tasks,
  task,
  offset,
  jitter,
  blocking,
  deadline,
  priority,
  time,
}
use Rattle.table.specs.Number.{before, in_all, number}
use Rattle.table.specs.Lists.{list_of}
use Rattle.table.specs.Fields.{number_in}
use Rattle.table.specs.Rules.{header_rules, head_rules, task_rules, transaction_rules, body_rules, table_rules}
use Rattle.refusals.specs.Answer.{◌then◌, found_of, checked}

unfoldable pub computing : Unit {0}
unfolding sum greatest transactions transaction period modes tasks task offset jitter blocking deadline priority time before in_all number list_of number_in header_rules head_rules task_rules transaction_rules body_rules table_rules ◌then◌ found_of checked
computing = tt
