use Prim.Native.Nat.{◌-◌}
use Rattle.periods.specs.Charge.{imposed}
use Rattle.analysis.specs.Order.{walk_order}
use Rattle.analysis.specs.Walk.{walk_turns}
use Rattle.answers.specs.Turn.{best_meant}
use Rattle.answers.proofs.Walks.{Going, modes_from}
use Rattle.answers.proofs.walk.Walk.modes.Given as goal

abbrev pub invariant-loop-m : goal.invariant-loop-m
invariant-loop-m l =
    Going l.budget
    (walk_turns imposed l.cells.tab l.cells.u l.cells.a (walk_order l.cells.tab l.cells.u l.cells.a) (l.budget - l.initial.state.used) (best_meant l.initial.state.best))
    (walk_turns imposed l.cells.tab l.cells.u l.cells.a (modes_from l.cells.tab l.cells.u l.cells.a l.m (l.count - l.m)))
    l.state
