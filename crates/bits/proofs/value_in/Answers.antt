-- `bits::value_in` meets its contract: a field within its four bytes, or its five.
use native.Mathlib.Omega.{arith}
use Rattle.bits.proofs.Bytes.{within-four, within-five}
use Rattle.bits.proofs.value_in.Goals as goal

pub returns-then-width-le-NARROW : goal.returns-then-width-le-NARROW
returns-then-width-le-NARROW c =
    rw (c.cut.ensures, c.from-four.ensures)
    (within-four _ (λ k. (c.type_inv.image k).fits) _ _ _ c.from_be_bytes.ensures (omega arith))

pub returns-else-width-le-NARROW : goal.returns-else-width-le-NARROW
returns-else-width-le-NARROW c =
    rw (c.cut-else-width-le-NARROW.ensures, c.from-four.ensures, c.from.ensures)
    (within-five _ (λ k. (c.type_inv.image k).fits) _ _ _ c.from_be_bytes.ensures (omega arith))
