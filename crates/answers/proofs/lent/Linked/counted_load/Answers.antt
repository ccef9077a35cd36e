-- A mode of u counts where the task under analysis runs in it, and every mode of another transaction does. Assumes nothing.
use mathlib.Core.Path.{◌≡◌, sym, ◌∙◌}
use native.Mathlib.Omega.{arith}
use Rattle.row.specs.Row.{table_of}
use Rattle.analysis.specs.Rival.{Runs}
use Rattle.analysis.proofs.Choice.{when-yes, when-no}
use Rattle.answers.proofs.lent.Linked.counted_load.Goals as goal
use Rattle.answers.proofs.lent.Linked.counted_load.Goals.{else-i-self-via-then-i-self+else-time-eq0, else-i-self-via-else-i-self}

pub returns-then-time-eq0 : goal.returns-then-time-eq0
returns-then-time-eq0 c =
    rw (← c.self.view_is)
    (sym (when-no _ _ (λ f. let r = f c.if-i-self.true in let t = rw c.if-i-self.true at c.time.ensures in omega arith)))

pub returns-else-i-self : goal.returns-else-i-self
returns-else-i-self c =
    let y = c.self.inside in
    let counts : c.args.i ≡ y.s.u → Runs (table_of y.work.now) y.s.u c.args.m y.s.a = elim c.else-i-self.branch [
      | else-i-self-via-then-i-self+else-time-eq0 w ↦ λ e. let t = rw e at w.time.ensures in omega arith
      | else-i-self-via-else-i-self w ↦ λ e. absurd (w.if-i-self.false e)
    ] in
    let load = rw (← c.self.view_is) at c.load.ensures in
    rw (← c.self.view_is) (load ∙ sym (when-yes _ _ counts))
