-- `TaskAt::greatest_time` meets its contract. The invariant: the greatest of the first m times.
use Rattle.std.proofs.Common.{rules}
use mathlib.Core.Path.{refl}
use Rattle.table.specs.Sum.{greatest}
use Rattle.table.proofs.Sum.{greatest-next}
use Rattle.format.specs.Said.{time_in}
use Rattle.image.proofs.parts.TaskAt.greatest_time.Goals as goal

pub loop-m-init : goal.loop-m-init
unfolding greatest
loop-m-init c = refl

pub loop-m-preserved : goal.loop-m-preserved
loop-m-preserved c =
    let next = greatest-next c.loop-m.m (time_in c.args.self.image.now c.args.self.at) in
    search rules
