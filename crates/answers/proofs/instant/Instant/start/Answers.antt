-- The jobs from the first to p are few enough that their times fit.
use Rattle.std.proofs.Common.{arith}
use Rattle.answers.proofs.Signed.{times-le}
use Rattle.answers.proofs.instant.Instant.start.Goals as goal

pub overflow_mul-result : goal.overflow_mul-result
overflow_mul-result c =
    let most = times-le c.args.p.number c.args.self.first.number c.args.self.time.0 c.args.p.near c.args.self.first.near c.args.self.time_bound in
    grind (arith, c.jobs_to.ensures)

pub overflow_add-result : goal.overflow_add-result
overflow_add-result c =
    let most = times-le c.args.p.number c.args.self.first.number c.args.self.time.0 c.args.p.near c.args.self.first.near c.args.self.time_bound in
    grind (arith, c.jobs_to.ensures)
