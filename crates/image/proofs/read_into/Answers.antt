-- `read_into` meets its contract: of an accepted image, cleared cells are filled.
use mathlib.Core.Path.{sym, ◌∙◌}
use Rattle.table.specs.Lists.{padded}
use Rattle.format.specs.Fault.{IsAccepted}
use Rattle.image.proofs.Filled.{filled}
use Rattle.image.proofs.read_into.Goals as goal

pub returns-clause-cells_after : goal.returns-clause-cells_after
unfolding padded
returns-clause-cells_after c =
    let image = c.args.image.now in
    let yes : IsAccepted image = sym c.first_fault.ensures ∙ c.in_ok-first_fault.was in
    rw yes (c.fill.ensures ∙ filled image yes)
