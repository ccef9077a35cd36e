-- `put::put_bytes` meets its contract. The loop's invariant: the field's first k bytes are put.
use mathlib.Core.Path.{◌≡◌, refl}
use Prim.Native.Nat.{◌+◌, ◌-◌, ◌*◌, ◌%◌}
use native.Mathlib.Omega.{arith}
use Rattle.bits.specs.Bits.{field_bits}
use Rattle.bits.specs.Put.{bits_put}
use Rattle.put.proofs.BitsPut.{put_last, put_next}
use Rattle.put.proofs.put_bytes.Goals as goal

pub loop-k-init : goal.loop-k-init
unfolding bits_put field_bits
loop-k-init c = refl

pub loop-k-preserved : goal.loop-k-preserved
loop-k-preserved c =
    let a = c.args in
    let k = c.loop-k.k in
    let rest : a.width - 8 * (k + 1) ≡ a.width - 8 * k - 8 = omega arith in
    rw (c.put_byte.ensures, c.loop-k.invariant, rest)
    (put_next a.buffer.now (8 * a.first) (8 * k) 8 (a.width - 8 * k) a.value (omega arith) (omega arith) (omega arith))

pub returns-then-rest-gt0 : goal.returns-then-rest-gt0
returns-then-rest-gt0 c =
    let a = c.args in
    let k = c.loop-k.k in
    let rest : a.width - 8 * k ≡ a.width % 8 = omega arith in
    rw (c.put_chunk.ensures, c.loop-k.invariant, rest)
    (put_last a.buffer.now (8 * a.first) (8 * k) (a.width % 8) a.value (omega arith) (omega arith))
