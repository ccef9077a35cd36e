-- Exact up to (k − 1)·T − J, and the line beyond.
use Rattle.std.proofs.Common.{◌*◌, ◌-◌, ◌^◌, ◌≤◌, ◌∙◌, sym, arith}
use native.Mathlib.Nat.{mul-le-mul}
use Rattle.table.proofs.Ranges.{kept-period, period-lt}
use Rattle.jitter.specs.Request.{request}
use Rattle.jitter.specs.Plain.{request_of}
use Rattle.jitter.proofs.Approximation.{where-exact, where-beyond}
use Rattle.jitter.proofs.Ranges.{exact-small, beyond-small}
use Rattle.beside.proofs.reads.Alone.approximate.Goals as goal

pub overflow_mul-from : goal.overflow_mul-from
overflow_mul-from c =
    let x = c.args.self.now in
    let long : (c.args.k - 1) * c.from-period.result ≤ 2 ^ 32 * 2 ^ 24 = mul-le-mul {n₂ = 2 ^ 32} {m₂ = 2 ^ 24} (omega (arith, c.ranges.k)) (omega (arith, period-lt x.single_row.table.kept x.owner, c.period.ensures, c.from-period.ensures)) in
    rw c.from-3.ensures (omega arith)

pub overflow_mul-result : goal.overflow_mul-result
unfolding request_of request
overflow_mul-result c =
    let x = c.args.self.now in
    rw (c.time_of.ensures, c.jobs.ensures, c.from-then-since-from.ensures, c.from-period.ensures ∙ c.period.ensures)
    (omega (arith, exact-small x.single_row.table.kept x.single_row.single x.owner c.requires.t_le_horizon))

pub returns-then-since-from : goal.returns-then-since-from
unfolding request
returns-then-since-from c =
    let x = c.args.self.now in
    rw (c.time_of.ensures, c.jobs.ensures, c.from-then-since-from.ensures, c.from-period.ensures ∙ c.period.ensures)
    (sym (where-exact (kept-period x.single_row.table.kept x.owner) _ _ _ _ (rw (c.from.ensures, c.from-3.ensures, c.from-period.ensures ∙ c.period.ensures, c.from-2.ensures ∙ c.jitter.ensures) at c.if-since-from.true)))

pub overflow_mul-result-2 : goal.overflow_mul-result-2
overflow_mul-result-2 c =
    let x = c.args.self.now in
    rw (c.from-time.ensures ∙ c.time.ensures, c.from-period.ensures ∙ c.period.ensures)
    (omega (arith, beyond-small x.single_row.table.kept x.single_row.single x.owner c.requires.t_le_horizon))

pub overflow_mul-result-3 : goal.overflow_mul-result-3
overflow_mul-result-3 c =
    let x = c.args.self.now in
    rw (c.from-time.ensures ∙ c.time.ensures, c.from.ensures, c.from-2.ensures ∙ c.jitter.ensures)
    (omega (arith, beyond-small x.single_row.table.kept x.single_row.single x.owner c.requires.t_le_horizon))

pub overflow_add-result : goal.overflow_add-result
overflow_add-result c =
    let x = c.args.self.now in
    rw (c.from-time.ensures ∙ c.time.ensures, c.from.ensures, c.from-period.ensures ∙ c.period.ensures, c.from-2.ensures ∙ c.jitter.ensures)
    (omega (arith, beyond-small x.single_row.table.kept x.single_row.single x.owner c.requires.t_le_horizon))

pub returns : goal.returns
returns c =
    let x = c.args.self.now in
    rw (c.from-time.ensures ∙ c.time.ensures, c.from.ensures, c.from-period.ensures ∙ c.period.ensures, c.from-2.ensures ∙ c.jitter.ensures)
    (sym (where-beyond (kept-period x.single_row.table.kept x.owner) _ _ _ _ (λ e. omega (arith, e, rw (c.from.ensures, c.from-3.ensures, c.from-period.ensures ∙ c.period.ensures, c.from-2.ensures ∙ c.jitter.ensures) at c.if-since-from.false))))
