-- `chains::demand` meets its contract: what the jobs to p take, with what the rivals charge, which is far below 2^64.
use Rattle.std.proofs.Common.{sym, ◌∙◌, ℕ, ◌+◌, arith}
use mathlib.Core.Path.{ap₂}
use Rattle.analysis.proofs.Join.{demand-rivals}
use Rattle.charge.proofs.Ranges.{rivals-le}
use Rattle.answers.proofs.Instants.{instant-start}
use Rattle.answers.proofs.Signed.{times-le}
use Rattle.answers.proofs.lent.Linked.demand.Goals as goal

pub overflow_add-result : goal.overflow_add-result
overflow_add-result c =
    let a = c.args in
    let x = c.args.x in
    omega (
      arith,
      c.start.ensures,
      times-le a.p.number x.first.number x.time.0 a.p.near x.first.near x.time_bound,
      x.blocking_bound,
      c.rivals.ensures,
      rivals-le c.requires.instant.kept a.whole c.requires.t_le_horizon a.self.now.u a.self.now.a c.requires.instant.is_task.owner c.requires.instant.setting.mode x.candidate,
    )

pub returns : goal.returns
returns c =
    let a = c.args in
    ap₂ (λ (x y : ℕ). x + y) (c.start.ensures ∙ instant-start c.requires.instant.kept c.requires.instant.is_task c.requires.instant a.p.number) c.rivals.ensures
    ∙ sym (demand-rivals _ _ a.self.now.u a.self.now.a a.x.mode a.x.candidate a.p.number a.t.0)
