-- `fill::put_task` meets its contract: six stores, then the times.
use mathlib.Core.Path.{◌∙◌}
use native.Mathlib.Nat.{add-zero}
use native.Mathlib.Numerals.{add-one, add-two, add-three, add-four, add_five, add_six}
use Rattle.format.specs.Said.{task_in}
use Rattle.row.specs.Row.{of_task}
use Rattle.image.proofs.fill.put_task.Goals as goal

pub returns : goal.returns
unfolding of_task task_in
returns c =
    let cell = c.args.cell in
    c.put_times.ensures
    ∙ rw (c.body-body.ensures, add-zero cell, add-one cell, add-two cell, add-three cell, add-four cell, add_five cell, add_six cell)
