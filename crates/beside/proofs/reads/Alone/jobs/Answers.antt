-- ceil((t + J)/T) as it is written, in 32 bits.
use Prim.Native.Nat.{◌^◌, ◌<◌}
use native.Mathlib.Omega.{arith}
use Rattle.table.proofs.Ranges as ranges
use Rattle.table.proofs.Ranges.{kept-period}
use Rattle.periods.specs.Phase.{ceil}
use Rattle.jitter.proofs.Ranges.{jitter-small}
use Rattle.beside.proofs.reads.Alone.jobs.Goals as goal

jitter-lt : (c : goal.After-jitter) → c.jitter.result < 2 ^ 24
jitter-lt c =
    rw c.jitter.ensures (jitter-small c.args.self.now.single_row.table.kept c.args.self.now.single_row.single c.args.self.now.owner)

pub overflow_add-result : goal.overflow_add-result
overflow_add-result c = omega (arith, c.jitter.ensures, jitter-lt c)

period-some : (c : goal.After-jitter) → 0 < c.period-period.result
period-some c =
    rw c.period-period.ensures (kept-period c.args.self.now.single_row.table.kept c.args.self.now.owner)

pub overflow_sub-result : goal.overflow_sub-result
overflow_sub-result c = omega (arith, period-some c)

period-lt : (c : goal.After-jitter) → c.period-period.result < 2 ^ 24
period-lt c =
    rw c.period-period.ensures (ranges.period-lt c.args.self.now.single_row.table.kept c.args.self.now.owner)

pub overflow_add-result-2 : goal.overflow_add-result-2
overflow_add-result-2 c = omega (arith, c.jitter.ensures, jitter-lt c, period-lt c)

pub nonzero_div-result : goal.nonzero_div-result
nonzero_div-result c = omega (arith, period-some c)

pub returns : goal.returns
unfolding ceil
returns c = rw (c.period-period.ensures, c.jitter.ensures)
