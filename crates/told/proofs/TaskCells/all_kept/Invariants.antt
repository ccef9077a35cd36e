use Rattle.std.proofs.Common.{◌≡◌, true}
use Rattle.told.specs.Cells.{are_kept}
use Rattle.told.proofs.TaskCells.all_kept.Given as goal

abbrev pub invariant-loop-k : goal.invariant-loop-k
invariant-loop-k l = are_kept l.cells l.k ≡ true
