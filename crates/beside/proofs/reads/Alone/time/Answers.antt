-- The cell of the task is its field.
use Rattle.std.proofs.Common.{◌∙◌}
use Rattle.beside.proofs.Fields.{field-time}
use Rattle.beside.proofs.reads.Alone.time.Goals as goal

pub returns : goal.returns
returns c =
    let x = c.args.self.now in
    c.cell.ensures ∙ field-time x.single_row x.owner
