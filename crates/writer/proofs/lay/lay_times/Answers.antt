-- `lay::lay_times` meets its contract. The invariant: the times of the first m modes are put.
use mathlib.Core.Path.{refl, ◌∙◌}
use Prim.Native.Nat.{◌+◌, ◌*◌}
use native.Mathlib.Omega.{arith}
use lib.ListN.{get_or}
use Rattle.bits.specs.Put.{bits_put}
use Rattle.table.specs.Limits.{time_width}
use Rattle.table.specs.Lists.{joined}
use Rattle.format.specs.Places.{times_at}
use Rattle.row.proofs.Readers.{time-cell}
use Rattle.row.specs.Row.{task_cell, times_cell}
use Rattle.round.proofs.Places.{length_fields}
use Rattle.writer.specs.Parts.{time_bits}
use Rattle.writer.proofs.Laid.{put-joined}
use Rattle.writer.proofs.lay.lay_times.Goals as goal

pub loop-m-init : goal.loop-m-init
unfolding joined bits_put
loop-m-init c = refl

pub loop-m-preserved : goal.loop-m-preserved
loop-m-preserved c =
    let t = c.args.task in
    let m = c.loop-m.m in
    c.put.ensures
    ∙ rw (c.loop-m.invariant, c.time.ensures, c.time_at.ensures, time-cell t.row.now t.number m t.number_bound (omega arith))
    (put-joined c.args.buffer.now (times_at t.at) m (m * time_width) (time_bits t.row.now t.number)
    (length_fields time_width m (λ i. get_or t.row.now (task_cell t.number + (times_cell + i)) 0)))
