-- The cell of the task is its field.
use Rattle.std.proofs.Common.{◌∙◌}
use Rattle.beside.proofs.Fields.{field-jitter}
use Rattle.beside.proofs.reads.Alone.jitter.Goals as goal

pub returns : goal.returns
returns c =
    let x = c.args.self.now in
    c.cell.ensures ∙ field-jitter x.single_row x.owner
