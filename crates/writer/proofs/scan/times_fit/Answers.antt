-- `scan::times_fit` meets its contract. The invariant: nothing was found at the first m times.
use Rattle.std.proofs.Common.{rules, ◌≡◌, Err}
use mathlib.Core.Path.{refl, sym, ◌∙◌}
use Prim.Native.Nat.{ℕ}
use Rattle.table.specs.Limits.{time_width}
use Rattle.refusals.specs.Answer.{Answer, first_of}
use Rattle.refusals.proofs.Findings.{joining, passes, fails}
use Rattle.row.specs.Row.{time_cell}
use Rattle.format.specs.Places.{time_at}
use Rattle.writer.specs.declared.parts.TaskAt.{TaskAt}
use Rattle.writer.specs.Scan.{fits_at}
use Rattle.writer.proofs.scan.times_fit.Goals as goal

abbrev times : TaskAt → ℕ → Answer
times task m = fits_at (time_cell task.row.now task.number m) time_width (time_at task.at m)

pub loop-m-init : goal.loop-m-init
unfolding joining
loop-m-init c = refl

pub returns-in_err-fits : goal.returns-in_err-fits
returns-in_err-fits c =
    let found = rw (c.time.ensures, c.time_at.ensures) at c.fits.ensures in
    let all : first_of c.args.task.modes (times c.args.task) ≡ Err c.in_err-fits.field-0.0 =
    fails (times c.args.task) c.args.task.modes c.loop-m.m _ c.loop-m-test.true c.loop-m.invariant (sym found ∙ c.in_err-fits.was) in
    search rules

pub loop-m-preserved : goal.loop-m-preserved
loop-m-preserved c =
    let found = rw (c.time.ensures, c.time_at.ensures) at c.fits.ensures in
    passes (times c.args.task) c.loop-m.m c.loop-m.invariant (sym found ∙ c.in_ok-fits.was)
