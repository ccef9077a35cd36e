-- The loop has stored the sums of the first c candidates. Assumes nothing.
use mathlib.Core.Path.{◌≡◌, ap, ◌∙◌, subst}
use Prim.Native.Nat.{ℕ}
use native.Mathlib.Omega.{arith}
use Rattle.row.specs.Row.{table_of}
use Rattle.table.specs.Table.{Table}
use Rattle.charge.specs.Weight.{held_back}
use Rattle.answers.proofs.Filling.{same-less, lent_same}
use Rattle.answers.proofs.Weighing.{mode-weighed-same, SumsTo, sums_none, sums_next, sums-all}
use Rattle.answers.proofs.work.put_sums.Goals as goal

pub loop-c-init : goal.loop-c-init
loop-c-init c = sums_none c.requires.lent.table.kept c.args.s.u c.args.s.a c.requires.tasks_of c.requires.m_bound c.requires.weighed_to

pub held_back-held-requires : goal.held_back-held-requires
held_back-held-requires c =
    let r = c.requires in
    let same = c.loop-c.invariant.same in
    let (now, e) = lent_same r.lent c.loop-c.work (same-less (omega arith) same) in
    record {
      lent = now;
      tasks_of = rw e r.tasks_of;
      m_bound = rw e r.m_bound;
      mode_weighed = rw e (mode-weighed-same r.lent.table.kept c.args.s.u c.args.s.a r.tasks_of.owner r.m_bound same r.mode_weighed);
      c_lt_count = c.loop-c-test.true;
    }

pub loop-c-preserved : goal.loop-c-preserved
loop-c-preserved c =
    let r = c.requires in
    let x = c.args in
    let (now, e) = lent_same r.lent c.loop-c.work (same-less (omega arith) c.loop-c.invariant.same) in
    sums_next r.lent.table.kept x.s.u x.s.a r.tasks_of r.m_bound c.loop-c-test.true now.size
    (c.held_back-held.ensures ∙ ap (λ (t : Table). held_back t x.s.u x.s.a x.of.i x.of.m c.loop-c.c) e)
    c.loop-c.invariant

pub returns : goal.returns
returns c =
    let r = c.requires in
    let x = c.args in
    let all : c.loop-c.c ≡ x.of.count = omega arith in
    record {
      same_to = same-less (omega arith) c.loop-c.invariant.same;
      weighed_to_2 = sums-all r.lent.table.kept x.s.u x.s.a r.tasks_of r.m_bound r.mode_weighed
          (subst (λ (n : ℕ). SumsTo (table_of x.work.now) x.s.u x.s.a x.of.i x.of.m x.of.first n x.work.now c.loop-c.work) all c.loop-c.invariant);
    }
