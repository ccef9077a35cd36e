-- `read_in_front` meets its contract: of an accepted image, the row in front is filled, and the cells behind it stay.
use mathlib.Core.Path.{◌≡◌, sym, ◌∙◌}
use mathlib.Core.List.{List}
use Prim.Native.Nat.{ℕ, ◌≤◌}
use lib.ListN.{length}
use borrow.Author.Tests.{le-leb}
use Rattle.refusals.specs.Answer.{accepted, checked}
use Rattle.refusals.proofs.Findings.{joining}
use Rattle.format.specs.Fault.{IsAccepted}
use Rattle.row.specs.Row.{row_cells}
use Rattle.image.specs.Read.{front_fault}
use Rattle.image.proofs.Filled.{filled-chunk}
use Rattle.image.proofs.read_in_front.Goals as goal

none : (image cells : List ℕ) → IsAccepted image → row_cells ≤ length cells → front_fault image cells ≡ accepted
unfolding joining checked
none image cells ok enough = rw (ok, le-leb row_cells (length cells) enough)

pub returns-clause-value : goal.returns-clause-value
returns-clause-value c =
    let ok : IsAccepted c.args.image.now = sym c.first_fault.ensures ∙ c.in_ok-first_fault.was in
    sym (none c.args.image.now c.args.cells.now ok c.in-Some.ensures.cases.enough)

pub returns-clause-cells_after : goal.returns-clause-cells_after
returns-clause-cells_after c =
    let image = c.args.image.now in
    let cells = c.args.cells.now in
    let ok : IsAccepted image = sym c.first_fault.ensures ∙ c.in_ok-first_fault.was in
    let chunk = c.in-Some.ensures.cases in
    rw (none image cells ok chunk.enough, c.fill.ensures) (filled-chunk image ok cells c.in-Some.row.now chunk.enough chunk.same)
