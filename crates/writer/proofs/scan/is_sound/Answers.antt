-- `scan::is_sound` meets its contract: a sum that is 0 has no part that is not, so that every number fits, and with the greatest time
-- every time.
use mathlib.Core.Path.{◌≡◌}
use mathlib.Core.List.{List}
use mathlib.Core.Bool.{true}
use Prim.Native.Nat.{ℕ, ◌+◌, ◌/◌, ◌^◌, ◌<◌}
use native.Mathlib.Omega.{arith}
use lib.Dec.{leb}
use borrow.Author.Tests.{leb-true}
use Rattle.table.specs.Limits.{offset_width, jitter_width, blocking_width, deadline_width, priority_width, time_width}
use Rattle.table.specs.Fields.{TaskField, width_in_task, IsTaskField}
use Rattle.table.specs.Fields.TaskField.{offset, jitter, blocking, deadline, priority, time}
use Rattle.table.specs.Sum.{greatest}
use Rattle.table.proofs.Sum.{greatest-term}
use Rattle.row.specs.Row.{offset_cell, jitter_cell, blocking_cell, deadline_cell, priority_cell, body_cell, time_cell}
use Rattle.writer.specs.Scan.{task_number}
use Rattle.writer.proofs.Scanned.{no-fault}
use Rattle.writer.proofs.scan.is_sound.Goals as goal

-- a sum that is 0 has no part that is not
all_fit :
    (o j b d p c : ℕ)
    → o / 2 ^ offset_width + j / 2 ^ jitter_width + b / 2 ^ blocking_width + d / 2 ^ deadline_width + p / 2 ^ priority_width + c / 2 ^ time_width ≡ 0
    → (o < 2 ^ offset_width) × (j < 2 ^ jitter_width) × (b < 2 ^ blocking_width) × (d < 2 ^ deadline_width) × (p < 2 ^ priority_width) × (c < 2 ^ time_width)
all_fit o j b d p c none = (omega arith, omega arith, omega arith, omega arith, omega arith, omega arith)

-- so every number does that a task of m modes has
every_fits :
    (row : List ℕ) (m k : ℕ)
    → (body_cell row k offset_cell < 2 ^ offset_width)
    × (body_cell row k jitter_cell < 2 ^ jitter_width)
    × (body_cell row k blocking_cell < 2 ^ blocking_width)
    × (body_cell row k deadline_cell < 2 ^ deadline_width)
    × (body_cell row k priority_cell < 2 ^ priority_width)
    × (greatest m (λ i. time_cell row k i) < 2 ^ time_width)
    → (f : TaskField) → IsTaskField m f → task_number row k f < 2 ^ width_in_task f
every_fits row m k small offset has = small.0
every_fits row m k small jitter has = small.1
every_fits row m k small blocking has = small.2
every_fits row m k small deadline has = small.3
every_fits row m k small priority has = small.4
every_fits row m k small (time i) has = omega (arith, small.5, greatest-term m (λ j. time_cell row k j) i has)

pub returns-then-time-gt0 : goal.returns-then-time-gt0
returns-then-time-gt0 c kept =
    let t = c.args.task in
    let cell = body_cell t.row.now t.number in
    let most : ℕ = greatest t.modes (λ i. time_cell t.row.now t.number i) in
    let small = all_fit (cell offset_cell) (cell jitter_cell) (cell blocking_cell) (cell deadline_cell) (cell priority_cell) most (cc) in
    let asked : leb (cell offset_cell + most) (cell deadline_cell) ≡ true = cc in
    no-fault t.row.now t.modes t.number
    (every_fits t.row.now t.modes t.number small)
    (omega arith)
    (leb-true (cell offset_cell + most) (cell deadline_cell) asked)
    t.at
