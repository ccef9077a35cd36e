-- The mode that answers is a later one, and no task weighs less in it. Assumes nothing.
use mathlib.Core.Path.{ap}
use Prim.Native.Nat.{ℕ, ◌+◌, ◌-◌}
use native.Mathlib.Omega.{arith}
use borrow.Author.Tests.{tests}
use Rattle.std.proofs.Common.{rules}
use Rattle.std.proofs.lemmas.Iterator.{cases_from_any, YieldsList-from_range}
use Rattle.charge.specs.Links.{Below}
use Rattle.answers.specs.Analysed.{Analysed}
use Rattle.answers.proofs.Spans.{some-within}
use Rattle.answers.proofs.lent.Weighed.is_dropped.Goals as goal

pub returns : goal.returns
returns c e =
    let v = c.args.self.now in
    let a = c.args.m + 1 in
    let n = c.modes-count.result - a in
    let count = rw (ap (λ (v : Analysed). v.tab) c.self.view_is) at c.modes-count.ensures in
    let Yes : ℕ → Type 0 = Below v.tab v.u v.a c.args.i c.args.m in
    let any =
    cases_from_any _ _ c.any.result Yes (λ (j : ℕ). Unit {0}) c.any.ensures.ran (YieldsList-from_range a c.modes-count.result n (cc) (omega arith)) (λ x q k. search (rules, tests))
    (λ x q k. search (rules, tests)) in
    let (by, later, mode, below) = some-within Yes _ a n any e in
    record { by = by; later = omega arith; mode = omega arith; below = below }
