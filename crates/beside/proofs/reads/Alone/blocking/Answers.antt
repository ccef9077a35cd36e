-- The cell of the task is its field.
use Rattle.std.proofs.Common.{◌∙◌}
use Rattle.beside.proofs.Fields.{field-blocking}
use Rattle.beside.proofs.reads.Alone.blocking.Goals as goal

pub returns : goal.returns
returns c =
    let x = c.args.self.now in
    c.cell.ensures ∙ field-blocking x.single_row x.owner
