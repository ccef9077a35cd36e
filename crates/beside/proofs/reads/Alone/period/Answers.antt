-- The cell of the transaction is its field.
use Rattle.std.proofs.Common.{sym}
use Rattle.row.proofs.Held.{held-period}
use Rattle.beside.proofs.reads.Alone.period.Goals as goal

pub returns : goal.returns
returns c =
    let x = c.args.self.now in
    sym (held-period x.row.now x.owner)
