-- `scan::is_sound` meets its contract.
use mathlib.Core.Path.{sym, ◌∙◌}
use Prim.Native.Nat.{◌+◌, ◌≤◌}
use native.Mathlib.Omega.{arith}
use borrow.Author.Tests.{leb-true}
use Rattle.format.proofs.Sound.{whole-task}
use Rattle.image.proofs.scan.is_sound.Goals as goal

pub returns-then-time-gt0 : goal.returns-then-time-gt0
returns-then-time-gt0 c kept =
    let t = c.args.task in
    let room : c.value-offset.result + c.greatest_time-time.result ≤ c.value-due.result = leb-true _ _ (sym c.is_keepable.ensures ∙ kept) in
    whole-task t.image.now t.modes t.at
    (sym c.inside.ensures ∙ c.if-not-inside.false)
    (omega (arith, c.if-time-gt0.true, c.greatest_time-time.ensures))
    (omega (arith, room, c.value-offset.ensures, c.value-due.ensures, c.greatest_time-time.ensures))
