-- What the chain has seen of each place is what `Below` says of each task. Assumes nothing.
use mathlib.Core.Path.{ap}
use Prim.Native.Nat.{ℕ, ◌≤◌}
use native.Mathlib.Omega.{arith}
use borrow.Author.Tests.{tests}
use Rattle.std.proofs.Common.{rules}
use Rattle.std.proofs.lemmas.Iterator.{cases_from_all, YieldsList-from_range}
use Rattle.charge.specs.Weight.{weight}
use Rattle.answers.specs.Analysed.{Analysed}
use Rattle.answers.proofs.Spans.{each-below}
use Rattle.answers.proofs.lent.Weighed.is_below.Goals as goal

pub returns : goal.returns
returns c e =
    let v = c.args.self.now in
    let n = c.tasks-count.result in
    let count = rw (ap (λ (v : Analysed). v.tab) c.self.view_is) at c.tasks-count.ensures in
    let Yes : ℕ → Type 0 = λ j. weight v.tab v.u v.a c.args.i c.args.m j ≤ weight v.tab v.u v.a c.args.i c.args.n j in
    let all =
    cases_from_all _ _ c.all.result Yes (λ (j : ℕ). Unit {0}) c.all.ensures.ran (YieldsList-from_range 0 n n (cc) (omega arith)) (λ x q k. search (rules, tests))
    (λ x q k. tt) in
    record { each = λ k l. each-below Yes _ n all e k (omega arith) }
