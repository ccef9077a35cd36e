use Prim.Native.Nat.{◌-◌}
use Rattle.periods.specs.Charge.{imposed}
use Rattle.analysis.specs.Walk.{walk_turns}
use Rattle.answers.specs.Turn.{best_meant, turns_from, mode_turns}
use Rattle.answers.proofs.Walks.{Going}
use Rattle.answers.proofs.walk.Walk.mode.Given as goal

abbrev pub invariant-loop-c : goal.invariant-loop-c
invariant-loop-c l =
    Going l.budget
    (walk_turns imposed l.cells.tab l.cells.u l.cells.a (mode_turns l.cells.tab l.cells.u l.cells.a l.m) (l.budget - l.initial.state.used) (best_meant l.initial.state.best))
    (walk_turns imposed l.cells.tab l.cells.u l.cells.a (turns_from l.cells.tab l.cells.u l.cells.a l.m l.c (l.count - l.c)))
    l.state
