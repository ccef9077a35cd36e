-- `Parts::put` stores every cell anew.
use Rattle.std.proofs.Common.{◌≡◌, Some, sym}
use Rattle.parts.specs.Parts.{parts_listed}
use Rattle.parts.proofs.Whole.{sets-whole}
use Rattle.parts.proofs.Parts.put.Goals as goal

pub returns-in-Ok-Some : goal.returns-in-Ok-Some
returns-in-Ok-Some c =
    let x = c.in-Ok-Some in
    let some : x.field-0 ≡ Some x.parts = rw x.is at x.field-0-is in
    rw (c.listed.ensures, x.is, some) (sym (sets-whole c.args.cells.now (parts_listed x.parts) c.told-cells))
