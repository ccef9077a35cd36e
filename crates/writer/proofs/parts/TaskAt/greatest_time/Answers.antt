-- `TaskAt::greatest_time` meets its contract. The invariant: the greatest of the first m times.
use mathlib.Core.Path.{refl}
use Rattle.table.specs.Sum.{greatest}
use Rattle.table.proofs.Sum.{greatest-next}
use Rattle.writer.proofs.parts.TaskAt.greatest_time.Goals as goal

pub loop-m-init : goal.loop-m-init
unfolding greatest
loop-m-init c = refl

pub loop-m-preserved : goal.loop-m-preserved
loop-m-preserved c = rw (greatest-next, c.max-most.ensures, c.loop-m.invariant, c.time.ensures)
