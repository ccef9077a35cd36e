use mathlib.Core.Path.{◌≡◌}
use Prim.Native.Nat.{◌-◌, ◌*◌, ◌/◌, ◌^◌}
use Rattle.bits.specs.Bits.{field_bits}
use Rattle.bits.specs.Put.{bits_put}
use Rattle.put.proofs.put_bytes.Given as goal

abbrev pub invariant-loop-k : goal.invariant-loop-k
invariant-loop-k l = l.buffer ≡ bits_put l.initial.buffer (8 * l.first) (field_bits (8 * l.k) (l.value / 2 ^ (l.width - 8 * l.k)))
