-- `read` gives the reader's answer as one number: places are small.
use mathlib.Core.Path.{ap}
use Rattle.std.proofs.Common.{◌^◌, ◌<◌}
use Rattle.std.proofs.Math.Nat.{mod-eq_of_lt}
use native.Mathlib.Omega.{arith}
use Rattle.refusals.specs.Answer.{answer_place}
use Rattle.format.proofs.Reach.{furthest}
use Rattle.editor.proofs.read.Goals as goal

pub returns : goal.returns
returns c =
    let small : answer_place c.read_into.result < 2 ^ 32 = omega (arith, ap answer_place c.read_into.ensures.value, furthest c.args.image.now) in
    record { number = rw (c.tell.ensures, mod-eq_of_lt small, c.read_into.ensures.value); cells = c.read_into.ensures.cells_after }
