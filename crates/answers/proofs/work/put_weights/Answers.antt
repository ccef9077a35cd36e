-- The loop has stored the weights of the first j tasks, and `mode_weight` is their sum. Assumes nothing.
use mathlib.Core.Path.{◌≡◌, ap, ◌∙◌, subst}
use Prim.Native.Nat.{ℕ}
use native.Mathlib.Omega.{arith}
use Rattle.row.specs.Row.{table_of}
use Rattle.table.specs.Table.{Table}
use Rattle.charge.specs.Weight.{weight}
use Rattle.answers.proofs.Filling.{lent_same}
use Rattle.answers.proofs.Weighing.{WeightsTo, weights-none, weights-room, weights-next, weights-all}
use Rattle.answers.proofs.work.put_weights.Goals as goal

pub loop-j-init : goal.loop-j-init
loop-j-init c = weights-none c.requires.lent.table.kept c.args.s.u c.args.s.a c.requires.tasks_of c.requires.m_bound c.requires.weighed_to

pub weight-weight-requires : goal.weight-weight-requires
weight-weight-requires c =
    let own = c.requires.tasks_of in
    let (now, e) = lent_same c.requires.lent c.loop-j.work c.loop-j.invariant.same in
    record {
      row_of_table = now.table;
      chosen = rw e c.requires.chosen;
      task = rw e (record { owner = own.owner; place = omega (arith, own.count) });
      m_bound = rw e c.requires.m_bound;
      k_value = rw e (omega (arith, own.first));
    }

pub overflow_add-mode_weight : goal.overflow_add-mode_weight
overflow_add-mode_weight c =
    let x = c.args in
    let e = (lent_same c.requires.lent c.loop-j.work c.loop-j.invariant.same).1 in
    let is = c.weight-weight.ensures ∙ ap (λ (t : Table). weight t x.s.u x.s.a x.of.i x.of.m c.loop-j.j) e in
    omega (
      arith,
      is,
      c.loop-j.invariant.mode_weight,
      weights-room c.requires.lent.table.kept x.s.u x.s.a c.requires.tasks_of c.requires.m_bound c.loop-j-test.true,
    )

pub loop-j-preserved : goal.loop-j-preserved
loop-j-preserved c =
    let x = c.args in
    let (now, e) = lent_same c.requires.lent c.loop-j.work c.loop-j.invariant.same in
    weights-next c.requires.lent.table.kept x.s.u x.s.a c.requires.tasks_of c.requires.m_bound c.loop-j-test.true now.size
    (c.weight-weight.ensures ∙ ap (λ (t : Table). weight t x.s.u x.s.a x.of.i x.of.m c.loop-j.j) e)
    c.loop-j.invariant

pub returns : goal.returns
returns c =
    let x = c.args in
    let lent = c.requires.lent in
    let to = c.loop-j.invariant in
    let all : c.loop-j.j ≡ x.of.count = omega arith in
    let made =
    weights-all lent.table.kept x.s.u x.s.a c.requires.tasks_of c.requires.m_bound (to.same.size ∙ lent.size)
    (subst (λ (n : ℕ). WeightsTo (table_of x.work.now) x.s.u x.s.a x.of.i x.of.m x.of.first n c.loop-j.mode_weight x.work.now c.loop-j.work) all to) in
    record { same_to = made.0; weighed_to_2 = made.1.0; mode_weighed = made.1.1 }
