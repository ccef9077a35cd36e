-- `lay::lay` meets its contract: the header, then the transactions.
use mathlib.Core.Path.{◌∙◌}
use Rattle.writer.proofs.Laid.{table-laid}
use Rattle.writer.proofs.lay.lay.Goals as goal

pub returns : goal.returns
returns c = c.lay_transactions.ensures ∙ rw c.lay_header.ensures (table-laid c.args.row.now c.requires c.args.buffer.now)
