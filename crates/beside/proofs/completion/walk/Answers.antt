-- The search is at a sound start, and goes on until that comes back or passes the horizon.
use Rattle.std.proofs.Common.{◌<◌, ◌∙◌, sym, arith}
use native.Mathlib.Nat.{le_refl}
use Rattle.jitter.proofs.Start.{sound-next, sound-rises, sound-completion, sound-beyond}
use Rattle.jitter.proofs.Ranges.{blocking-small, time-small}
use Rattle.beside.specs.Search.{Finds}
use Rattle.beside.proofs.Passes.{pass-small, workload-is}
use Rattle.beside.proofs.completion.walk.Goals as goal

pub overflow_add-value : goal.overflow_add-value
overflow_add-value c =
    let x = c.args.task in
    let kept = x.single_row.table.kept in
    let single = x.single_row.single in
    omega (arith, c.own-own.ensures, blocking-small kept single x.owner, time-small kept single x.owner, (pass-small kept single (le_refl _) c.requires (omega (arith, c.loop-t-test.true, c.from-horizon.ensures, c.horizon.ensures)) c.over_all-seen.ensures).all)

pub returns-then-value-t : goal.returns-then-value-t
returns-then-value-t c =
    let x = c.args.task in
    Finds.found (sound-completion x.single_row.table.kept x.single_row.single x.owner c.loop-t.invariant (sym (workload-is c.own-own.ensures c.over_all-seen.ensures) ∙ c.if-value-t.true))
    (omega (arith, c.loop-t-test.true, c.from-horizon.ensures, c.horizon.ensures))

pub returns-then-horizon-value : goal.returns-then-horizon-value
returns-then-horizon-value c =
    let x = c.args.task in
    let kept = x.single_row.table.kept in
    let next = sound-next kept x.single_row.single x.owner c.loop-t.invariant in
    Finds.nothing (sound-beyond kept x.single_row.single x.owner next (omega (arith, c.if-horizon-value.true, workload-is c.own-own.ensures c.over_all-seen.ensures, c.from-horizon.ensures, c.horizon.ensures)))

pub further-next-requires-clause-value_value : goal.further-next-requires-clause-value_value
further-next-requires-clause-value_value c = workload-is c.own-own.ensures c.over_all-seen.ensures

-- each step goes on
goes : (c : goal.After-further-next) → c.loop-t.t < c.further-next.result
goes c =
    let x = c.args.task in
    omega (arith, c.further-next.ensures.on, c.if-value-t.false, workload-is c.own-own.ensures c.over_all-seen.ensures, sound-rises x.single_row.table.kept x.single_row.single x.owner c.loop-t.invariant)

pub overflow_sub-span : goal.overflow_sub-span
overflow_sub-span c = omega (arith, goes c)

pub loop-t-smaller : goal.loop-t-smaller
loop-t-smaller c = omega (arith, goes c, c.loop-t-test.true)

pub returns : goal.returns
returns c =
    let x = c.args.task in
    Finds.nothing (sound-beyond x.single_row.table.kept x.single_row.single x.owner c.loop-t.invariant (omega (arith, c.loop-t-test.false, c.from-horizon.ensures, c.horizon.ensures)))
