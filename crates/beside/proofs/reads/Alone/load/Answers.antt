-- The loop sums the loads of the rivals before i.
use Rattle.std.proofs.Common.{◌≡◌, refl, arith}
use Rattle.table.specs.Sum.{sum}
use Rattle.table.proofs.Sum.{sum-next}
use Rattle.jitter.specs.Start.{load}
use Rattle.jitter.proofs.Ranges.{loads-room}
use Rattle.beside.proofs.reads.Alone.load.Goals as goal

pub loop-i-init : goal.loop-i-init
unfolding sum
loop-i-init c = refl

pub overflow_add-all : goal.overflow_add-all
overflow_add-all c =
    let x = c.args.self.now in
    omega (arith, loads-room x.single_row.table.kept x.single_row.single x.u c.loop-i.i (omega (arith, c.transactions-i-end.ensures)))

pub loop-i-preserved : goal.loop-i-preserved
loop-i-preserved c = rw sum-next (omega arith)

pub returns : goal.returns
unfolding load
returns c =
    let all : c.loop-i.i ≡ c.transactions-i-end.result = omega arith in
    cc
