-- `Grouped` keeps within its text.
use Prim.Native.Nat.{◌≤◌}
use Rattle.page.proofs.numbers.GroupedDisplay.fmt.Given as goal

abbrev pub invariant-loop-i : goal.invariant-loop-i
invariant-loop-i g l = l.at ≤ 26
