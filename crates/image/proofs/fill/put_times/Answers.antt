-- `fill::put_times` meets its contract. The invariant: the times in the first m modes are stored.
use mathlib.Core.Path.{refl}
use Prim.Native.Nat.{ℕ}
use lib.ListN.{get_or}
use Rattle.table.specs.Lists.{list_of}
use Rattle.table.proofs.Lists.{store-next}
use Rattle.format.specs.Said.{time_in}
use Rattle.image.specs.declared.parts.TaskAt.{TaskAt}
use Rattle.image.proofs.fill.put_times.Goals as goal

abbrev times : TaskAt → ℕ → ℕ
times task m = get_or (list_of task.modes (time_in task.image.now task.at)) m 0

pub loop-m-init : goal.loop-m-init
unfolding list_of
loop-m-init c = refl

pub loop-m-preserved : goal.loop-m-preserved
loop-m-preserved c = rw (c.loop-m.invariant, c.time.ensures) (store-next (times c.args.task) c.args.cells.now c.args.cell c.loop-m.m)
