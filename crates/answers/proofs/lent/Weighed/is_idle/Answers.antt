-- Another transaction is idle where no mode weighs anything. Assumes nothing.
use mathlib.Core.Path.{◌≡◌, ap}
use Prim.Native.Nat.{ℕ}
use native.Mathlib.Omega.{arith}
use borrow.Author.Tests.{tests}
use Rattle.std.proofs.Common.{rules}
use Rattle.std.proofs.lemmas.Iterator.{cases_from_all, YieldsList-from_range}
use Rattle.table.specs.Table.{modes}
use Rattle.analysis.proofs.Choice.{most-le}
use Rattle.charge.specs.Links.{weightless}
use Rattle.charge.specs.Weight.{mode_weight}
use Rattle.answers.specs.Analysed.{Analysed}
use Rattle.answers.proofs.Spans.{each-below}
use Rattle.answers.proofs.lent.Weighed.is_idle.Goals as goal

pub returns-clause-idle : goal.returns-clause-idle
returns-clause-idle c e =
    let v = c.args.self.now in
    let n = c.modes-count.result in
    let count = rw (ap (λ (v : Analysed). v.tab) c.self.view_is) at c.modes-count.ensures in
    let Yes : ℕ → Type 0 = λ m. mode_weight v.tab v.u v.a c.args.i m ≡ 0 in
    let all =
    cases_from_all _ _ c.all.result Yes (λ (j : ℕ). Unit {0}) c.all.ensures.ran (YieldsList-from_range 0 n n (cc) (omega arith)) (λ x q k. search (rules, tests))
    (λ x q k. tt) in
    let most = most-le (modes v.tab c.args.i) {f = mode_weight v.tab v.u v.a c.args.i} {k = 0} (λ m l. omega (arith, each-below Yes _ n all e m (omega arith))) in
    weightless (omega (arith, most))
