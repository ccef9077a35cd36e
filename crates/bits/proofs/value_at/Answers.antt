-- `bits::value_at` meets its contract. The loop's invariant: `x` is the number that the first k bytes say.
use mathlib.Core.Path.{refl}
use Prim.Native.Nat.{◌+◌, ◌/◌}
use native.Mathlib.Omega.{arith}
use Rattle.bits.specs.Bits.{value_at}
use Rattle.bits.proofs.Fields.{few-bytes-below, of-bytes}
use Rattle.bits.proofs.Bytes.{byte-more}
use Rattle.bits.proofs.value_at.Goals as goal

pub loop-k-init : goal.loop-k-init
unfolding value_at
loop-k-init c = refl

pub overflow_mul-x : goal.overflow_mul-x
overflow_mul-x c = omega (arith, few-bytes-below _ _ c.loop-k.k (omega (arith, c.min-width.ensures)) c.loop-k.invariant)

pub overflow_add-x : goal.overflow_add-x
overflow_add-x c = omega (arith, few-bytes-below _ _ c.loop-k.k (omega (arith, c.min-width.ensures)) c.loop-k.invariant, c.byte.ensures, c.type_inv.image (c.args.at / 8 + c.loop-k.k))

pub loop-k-preserved : goal.loop-k-preserved
loop-k-preserved c = byte-more _ (λ k. (c.type_inv.image k).fits) _ _ c.loop-k.invariant c.byte.ensures

pub returns : goal.returns
returns c = rw (c.cut.ensures, c.min-width.ensures) (of-bytes _ _ _ c.loop-k.k (omega (arith, c.min-width.ensures)) c.loop-k.invariant)
