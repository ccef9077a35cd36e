-- The loop has done the modes below m. Assumes nothing.
use mathlib.Core.Path.{◌≡◌, sym, ◌∙◌, subst}
use Prim.Native.Nat.{ℕ, ◌+◌, ◌*◌}
use native.Mathlib.Nat.{add-zero}
use native.Mathlib.Omega.{arith}
use Rattle.row.specs.Row.{table_of}
use Rattle.table.specs.Limits.{modes_most}
use Rattle.table.specs.Table.{Table, modes as modes_in}
use Rattle.answers.specs.Work.{weights_cell}
use Rattle.answers.specs.Parts.{WeighedTo}
use Rattle.answers.proofs.Filling.{same_refl, same-trans, lent_same}
use Rattle.answers.proofs.Weighing.{weighed-next}
use Rattle.answers.proofs.work.weigh_transaction.Goals as goal

pub loop-m-init : goal.loop-m-init
loop-m-init c =
    let x = c.args in (
      same_refl weights_cell x.work.now,
      subst (λ (k : ℕ). WeighedTo (table_of x.work.now) x.s.u x.s.a k x.work.now) (sym (add-zero (modes_most * x.i))) c.requires.weighed_to,
    )

pub put_weights-requires : goal.put_weights-requires
put_weights-requires c =
    let (same, done) = c.loop-m.invariant in
    let (now, e) = lent_same c.requires.lent c.loop-m.work same in
    record {
      lent = now;
      chosen = rw e c.requires.chosen;
      tasks_of = rw e (record { owner = c.requires.i_bound; first = c.before-first.ensures; count = c.tasks-count.ensures });
      m_bound = rw e (omega (arith, c.modes-modes.ensures));
      weighed_to = rw e done;
    }

pub put_sums-requires : goal.put_sums-requires
put_sums-requires c =
    let (same, done) = c.loop-m.invariant in
    let put = c.put_weights.ensures in
    let (was, f) = lent_same c.requires.lent c.loop-m.work same in
    let (now, e) = lent_same was c.put_weights.new.work put.same_to in
    let here = e ∙ f in
    record {
      lent = now;
      tasks_of = rw here (record { owner = c.requires.i_bound; first = c.before-first.ensures; count = c.tasks-count.ensures });
      m_bound = rw here (omega (arith, c.modes-modes.ensures));
      weighed_to = rw e put.weighed_to_2;
      mode_weighed = rw e put.mode_weighed;
    }

pub loop-m-preserved : goal.loop-m-preserved
loop-m-preserved c =
    let x = c.args in
    let (same, done) = c.loop-m.invariant in
    let put = c.put_weights.ensures in
    let (was, f) = lent_same c.requires.lent c.loop-m.work same in
    let e = (lent_same was c.put_weights.new.work put.same_to).1 in (
      same-trans (same-trans same put.same_to) c.put_sums.ensures.same_to,
      subst (λ (t : Table). WeighedTo t x.s.u x.s.a (modes_most * x.i + (c.loop-m.m + 1)) c.put_sums.new.work) (e ∙ f) c.put_sums.ensures.weighed_to_2,
    )

pub returns : goal.returns
returns c =
    let x = c.args in
    let (same, done) = c.loop-m.invariant in
    let all : c.loop-m.m ≡ modes_in (table_of x.work.now) x.i = omega (arith, c.modes-modes.ensures) in record {
      same_to = same;
      weighed_to_2 = weighed-next c.requires.lent.table.kept x.s.u x.s.a x.i
          (subst (λ (m : ℕ). WeighedTo (table_of x.work.now) x.s.u x.s.a (modes_most * x.i + m) c.loop-m.work) all done);
    }
