-- The loop has done the transactions below i. What is stored lies behind the phases and the held-back jobs, so that these
-- stay. Assumes nothing.
use mathlib.Core.Path.{◌≡◌, subst}
use Prim.Native.Nat.{ℕ, ◌+◌, ◌*◌}
use native.Mathlib.Omega.{arith}
use Rattle.row.specs.Row.{table_of}
use Rattle.table.specs.Limits.{modes_most}
use Rattle.table.specs.Table.{Table, transactions as transactions_in}
use Rattle.answers.specs.Work.{weights_cell}
use Rattle.answers.specs.Parts.{WeighedTo}
use Rattle.answers.proofs.Filling.{same_refl, same-trans, lent_same}
use Rattle.answers.proofs.Weighing.{weighed-none, weighed-subject}
use Rattle.answers.proofs.work.weigh.Goals as goal

pub loop-i-init : goal.loop-i-init
loop-i-init c =
    let x = c.args in
    (same_refl weights_cell x.work.now, weighed-none (table_of x.work.now) x.s.u x.s.a x.work.now)

pub weigh_transaction-requires : goal.weigh_transaction-requires
weigh_transaction-requires c =
    let (same, done) = c.loop-i.invariant in
    let (now, e) = lent_same c.requires.lent c.loop-i.work same in
    record { lent = now; chosen = rw e c.requires.chosen; i_bound = rw e (omega (arith, c.transactions-count.ensures)); weighed_to = rw e done }

pub loop-i-preserved : goal.loop-i-preserved
loop-i-preserved c =
    let x = c.args in
    let (same, done) = c.loop-i.invariant in
    let e = (lent_same c.requires.lent c.loop-i.work same).1 in
    let put = c.weigh_transaction.ensures in (
      same-trans same put.same_to,
      subst (λ (t : Table). WeighedTo t x.s.u x.s.a (modes_most * (c.loop-i.i + 1)) c.weigh_transaction.new.work) e put.weighed_to_2,
    )

pub returns : goal.returns
returns c =
    let x = c.args in
    let tab = table_of x.work.now in
    let (same, done) = c.loop-i.invariant in
    let all : c.loop-i.i ≡ transactions_in tab = omega (arith, c.transactions-count.ensures) in
    let (now, e) = lent_same c.requires.lent c.loop-i.work same in record {
      lent_2 = now;
      work_unchanged = e;
      weighs = weighed-subject c.loop-i.work tab x.s e c.requires.lent.table.kept
          (subst (λ (i : ℕ). WeighedTo tab x.s.u x.s.a (modes_most * i) c.loop-i.work) all done);
    }
