-- The completion, the arrival and the offset are small, so that the response is a word.
use Rattle.std.proofs.Common.{◌<◌, ◌^◌, arith}
use Rattle.std.specs.Int.Signed.{mag}
use Rattle.answers.proofs.Signed.{response-word, arrival-small}
use Rattle.answers.proofs.instant.Instant.response.Goals as goal

pub returns : goal.returns
returns c =
    let x = c.args.self in
    let early : mag c.arrival.result.0 < 2 ^ 52 = rw c.arrival.ensures (arrival-small x.period.0 x.phase.0 c.args.p.number x.period_bound (omega arith) c.args.p.near) in
    rw (← c.arrival.ensures) (response-word c.args.w.0 x.offset.0 c.arrival.result.0 (omega arith) x.offset_bound early c.max.ensures.value c.max.type_inv)
