-- `scan::times_end` meets its contract. The invariant: nothing was found at the first m times.
use Rattle.std.proofs.Common.{rules, ◌≡◌, Err}
use mathlib.Core.Path.{refl, sym, ◌∙◌}
use Prim.Native.Nat.{ℕ}
use Rattle.table.specs.Limits.{time_width}
use Rattle.refusals.specs.Answer.{Answer, first_of}
use Rattle.refusals.proofs.Findings.{joining, passes, fails}
use Rattle.format.specs.Places.{time_at}
use Rattle.format.specs.Fault.{ends_at}
use Rattle.image.specs.declared.parts.TaskAt.{TaskAt}
use Rattle.image.proofs.scan.times_end.Goals as goal

abbrev times : TaskAt → ℕ → Answer
times task m = ends_at task.image.now (time_at task.at m) time_width

pub loop-m-init : goal.loop-m-init
unfolding joining
loop-m-init c = refl

pub returns-in_err-ends : goal.returns-in_err-ends
returns-in_err-ends c =
    let found = rw c.time_at.ensures at c.ends.ensures in
    let all : first_of c.args.task.modes (times c.args.task) ≡ Err c.in_err-ends.field-0.0 =
    fails (times c.args.task) c.args.task.modes c.loop-m.m _ c.loop-m-test.true c.loop-m.invariant (sym found ∙ c.in_err-ends.was) in
    search rules

pub loop-m-preserved : goal.loop-m-preserved
loop-m-preserved c =
    let found = rw c.time_at.ensures at c.ends.ensures in
    passes (times c.args.task) c.loop-m.m c.loop-m.invariant (sym found ∙ c.in_ok-ends.was)
