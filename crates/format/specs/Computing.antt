-- One name that opens every definition on the way from bytes to an answer and a table, so that what is stated of given bytes
-- computes.
use Rattle.bits.specs.Bits.{bit_at, value_at}
use Rattle.table.specs.Sum.{sum, greatest}
use Rattle.table.specs.Lists.{list_of}
use Rattle.table.specs.Rules.{header_rules, head_rules, task_rules, transaction_rules, body_rules, table_rules}
use Rattle.refusals.specs.Answer.{◌then◌, found_of, checked}
use Rattle.format.specs.Places.{past, start}
use Rattle.format.specs.Said.{task_in, transaction_in, table_in, tasks_before}
use Rattle.format.specs.Fault.{end_fault, image_fault}

unfoldable pub computing : Unit {0}
unfolding bit_at value_at sum greatest list_of header_rules head_rules task_rules transaction_rules body_rules table_rules ◌then◌ found_of checked past start task_in transaction_in table_in tasks_before end_fault image_fault
computing = tt
