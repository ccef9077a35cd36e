-- `put::put` meets its contract: the bits up to the edge of their first byte, and then the rest, where there is any.
use mathlib.Core.Path.{◌≡◌}
use Prim.Native.Nat.{◌+◌, ◌-◌, ◌*◌, ◌/◌, ◌%◌}
use native.Mathlib.Omega.{arith}
use Rattle.bits.specs.Bits.{field_bits}
use Rattle.bits.specs.Put.{bits_put}
use Rattle.put.proofs.BitsPut.{put_last}
use Rattle.put.proofs.put.Goals as goal

pub returns-then-end-eq0 : goal.returns-then-end-eq0
unfolding bits_put field_bits
returns-then-end-eq0 c = rw (← c.min-end.ensures, c.if-end-eq0.true)

pub returns-then-rest-gt0 : goal.returns-then-rest-gt0
returns-then-rest-gt0 c =
    let a = c.args in
    let take = c.min-take.result in
    let place : 8 * (a.at / 8) + a.at % 8 ≡ a.at = omega arith in
    rw (c.put_bytes.ensures, c.put_chunk.ensures, place, ← c.min-end.ensures)
    (put_last a.buffer.now a.at take (c.min-end.result - take) a.value (omega arith) (omega arith))
