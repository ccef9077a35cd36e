-- The loop sums by their cells what is held back of the first j tasks. Assumes nothing.
use mathlib.Core.Path.{◌≡◌, refl, ap, ap₂, ◌∙◌}
use Prim.Native.Nat.{ℕ, ◌*◌}
use native.Mathlib.Omega.{arith}
use Rattle.table.specs.Sum.{sum}
use Rattle.table.proofs.Sum.{sum-next}
use Rattle.answers.proofs.Weighing.{held_weight, held-weight-le, held-room, held-back-is}
use Rattle.answers.proofs.work.held_back.Goals as goal

pub loop-j-init : goal.loop-j-init
unfolding sum
loop-j-init c = refl

pub overflow_mul-held : goal.overflow_mul-held
overflow_mul-held c =
    let r = c.requires in
    omega (arith, ap₂ ◌*◌ c.from.ensures c.from-in-loop-j.ensures, held-weight-le r.lent r.tasks_of r.m_bound r.mode_weighed r.c_lt_count c.loop-j-test.true)

pub overflow_add-held : goal.overflow_add-held
overflow_add-held c =
    let r = c.requires in
    omega (arith, ap₂ ◌*◌ c.from.ensures c.from-in-loop-j.ensures, held-room r.lent r.tasks_of r.m_bound r.mode_weighed r.c_lt_count c.loop-j-test.true)

pub loop-j-preserved : goal.loop-j-preserved
loop-j-preserved c = rw sum-next (omega (arith, ap₂ ◌*◌ c.from.ensures c.from-in-loop-j.ensures))

pub returns : goal.returns
returns c =
    let r = c.requires in
    let x = c.args in
    let all : c.loop-j.j ≡ x.of.count = omega arith in
    c.loop-j.invariant
    ∙ ap (λ (n : ℕ). sum n (held_weight x.work.now x.of.m x.c x.of.first)) all
    ∙ held-back-is r.lent r.tasks_of r.m_bound r.mode_weighed r.c_lt_count
