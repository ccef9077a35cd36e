-- A pass goes on by a rival, and stays small.
use Rattle.std.proofs.Common.{◌*◌, ◌^◌, ◌≤◌, ◌∙◌, refl, arith}
use native.Mathlib.Nat.{mul-le-mul}
use Rattle.table.proofs.Ranges.{kept-period, period-lt}
use Rattle.jitter.proofs.Ceil.{ceil-covers}
use Rattle.jitter.proofs.Ranges.{jobs-small}
use Rattle.beside.proofs.Passes.{more}
use Rattle.beside.proofs.completion.Step.counted.Goals as goal

pub overflow_mul-next : goal.overflow_mul-next
overflow_mul-next c =
    let x = c.args.self.now in
    let kept = x.task.single_row.table.kept in
    let most : c.from.result * c.from-2.result ≤ 2 ^ 25 * 2 ^ 24 = mul-le-mul {n₂ = 2 ^ 25} {m₂ = 2 ^ 24} (omega (arith, c.from.ensures, c.jobs-jobs.ensures, jobs-small kept x.task.single_row.single c.requires.i_bound x.within)) (omega (arith, c.from-2.ensures, c.period.ensures, period-lt kept c.requires.i_bound)) in
    omega arith

pub overflow_sub-next : goal.overflow_sub-next
overflow_sub-next c =
    let x = c.args.self.now in
    rw (c.from.ensures, c.jobs-jobs.ensures, c.from-2.ensures, c.period.ensures, c.from-jitter.ensures ∙ c.jitter.ensures)
    (ceil-covers (kept-period x.task.single_row.table.kept c.requires.i_bound) _)

pub overflow_add-all : goal.overflow_add-all
overflow_add-all c = omega (arith, (more c.args.self.now c.requires.i_bound c.requires.rival c.requires.pass c.jobs-jobs.ensures c.time_of-request.ensures (c.from-jitter.ensures ∙ c.jitter.ensures) refl).all)

pub overflow_add-result : goal.overflow_add-result
overflow_add-result c = omega (arith, (more c.args.self.now c.requires.i_bound c.requires.rival c.requires.pass c.jobs-jobs.ensures c.time_of-request.ensures (c.from-jitter.ensures ∙ c.jitter.ensures) c.demand-load.ensures).slope)

pub overflow_mul-result : goal.overflow_mul-result
overflow_mul-result c = omega (arith, (more c.args.self.now c.requires.i_bound c.requires.rival c.requires.pass c.jobs-jobs.ensures c.time_of-request.ensures (c.from-jitter.ensures ∙ c.jitter.ensures) c.demand-load.ensures).jitters)

pub overflow_add-result-then-next-self : goal.overflow_add-result-then-next-self
overflow_add-result-then-next-self c = omega (arith, (more c.args.self.now c.requires.i_bound c.requires.rival c.requires.pass c.jobs-jobs.ensures c.time_of-request.ensures (c.from-jitter.ensures ∙ c.jitter.ensures) c.demand-load.ensures).jitters)

pub overflow_add-result-else-next-self : goal.overflow_add-result-else-next-self
overflow_add-result-else-next-self c = omega (arith, (more c.args.self.now c.requires.i_bound c.requires.rival c.requires.pass c.jobs-jobs.ensures c.time_of-request.ensures (c.from-jitter.ensures ∙ c.jitter.ensures) refl).level)

pub returns-then-next-self : goal.returns-then-next-self
returns-then-next-self c = (more c.args.self.now c.requires.i_bound c.requires.rival c.requires.pass c.jobs-jobs.ensures c.time_of-request.ensures (c.from-jitter.ensures ∙ c.jitter.ensures) c.demand-load.ensures).sloped

pub returns-else-next-self : goal.returns-else-next-self
returns-else-next-self c = (more c.args.self.now c.requires.i_bound c.requires.rival c.requires.pass c.jobs-jobs.ensures c.time_of-request.ensures (c.from-jitter.ensures ∙ c.jitter.ensures) refl).flat
