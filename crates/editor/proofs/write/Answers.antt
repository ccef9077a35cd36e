-- `write` gives the writer's answer as one number: places and lengths are small.
use Rattle.std.proofs.Common.{◌^◌, ◌<◌, arith}
use Rattle.std.proofs.Math.Nat.{mod-eq_of_lt}
use Rattle.writer.specs.Write.{writing_place}
use Rattle.round.proofs.Row.{row-timed}
use Rattle.writer.proofs.Returned.{place-most}
use Rattle.editor.proofs.write.Goals as goal

pub returns : goal.returns
returns c =
    let small : writing_place c.write.result < 2 ^ 32 = omega (arith, place-most (row-timed c.args.cells.now) c.write.ensures) in
    record { writing = c.write.result; writes = c.write.ensures; number = rw (c.tell.ensures, mod-eq_of_lt small) }
