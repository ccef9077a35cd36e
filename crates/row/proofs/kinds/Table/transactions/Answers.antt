-- `Table::transactions` meets its contract: the field is the row's cell (`Held`).
use mathlib.Core.Path.{sym, ◌∙◌}
use Rattle.row.proofs.Held.{held-transactions}
use Rattle.row.proofs.kinds.Table.transactions.Goals as goal

pub returns : goal.returns
returns c = c.cell.ensures ∙ sym (held-transactions c.args.row.now)
