-- The cell of the task is its field.
use Rattle.std.proofs.Common.{◌∙◌}
use Rattle.beside.proofs.Fields.{field-priority}
use Rattle.beside.proofs.reads.Alone.priority.Goals as goal

pub returns : goal.returns
returns c =
    let x = c.args.self.now in
    c.cell.ensures ∙ field-priority x.single_row x.owner
