use Prim.Native.Nat.{◌-◌}
use Rattle.periods.specs.Charge.{imposed}
use Rattle.analysis.specs.Walk.{walk_jobs}
use Rattle.answers.specs.Turn.{best_meant}
use Rattle.answers.proofs.Walks.{Going}
use Rattle.answers.proofs.walk.Walk.jobs.Given as goal

abbrev pub invariant-loop-n : goal.invariant-loop-n
invariant-loop-n l =
    Going l.budget
    (walk_jobs imposed l.cells.tab l.cells.u l.cells.a l.x.mode l.x.candidate l.jobs.0 0 (l.budget - l.initial.state.used) (best_meant l.initial.state.best))
    (walk_jobs imposed l.cells.tab l.cells.u l.cells.a l.x.mode l.x.candidate (l.n-end - l.n) l.n)
    l.state
