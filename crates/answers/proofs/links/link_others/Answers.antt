-- The loop has linked the transactions from i on, and `next` is the next other one from there. Assumes nothing.
use mathlib.Core.Path.{◌≡◌, subst, sym, ◌∙◌}
use mathlib.Core.List.{List}
use Prim.Native.Nat.{ℕ, ◌+◌, ◌-◌}
use native.Mathlib.Omega.{arith}
use lib.ListN.{set}
use Rattle.row.specs.Row.{table_of}
use Rattle.table.specs.Table.{Table}
use Rattle.charge.specs.Links.{Idle, NextOther}
use Rattle.answers.specs.declared.charges.Subject.{Subject}
use Rattle.answers.specs.Work.{others_cell, Lent, Weighs}
use Rattle.answers.specs.Parts.{SameTo, OthersFrom}
use Rattle.answers.proofs.Filling.{same_refl, same_set, same-trans, same-less}
use Rattle.answers.proofs.Linking.{weighs-same, others-none, others_put}
use Rattle.charge.proofs.Links.{other-end, other-self, other-idle}
use Rattle.answers.proofs.links.link_others.Goals as goal
use Rattle.answers.proofs.links.link_others.Goals.{then-not-is_idle, else-not-is_idle}

module _ {old : List ℕ} {s : Subject} (lent : Lent old) (weighs : Weighs old s) (n : ℕ) where
  -- the cells with the last link
  abbrev ended : List ℕ
  ended = set old (others_cell + n) n

  ended-same : SameTo others_cell old ended
  ended-same = same_set others_cell old old (others_cell + n) n (omega arith) (same_refl others_cell old)

  -- rows that differ in the links of transactions only are of the same table, with its weights
  leaves : (work : List ℕ) → SameTo others_cell ended work → Lent work × (Weighs work s × (table_of work ≡ table_of old))
  leaves work same = weighs-same lent weighs work (same-less (omega arith) (same-trans ended-same same))

  ended-table : table_of ended ≡ table_of old
  ended-table = (leaves ended (same_refl others_cell ended)).1.1

pub loop-i-init : goal.loop-i-init
loop-i-init c =
    let s = c.args.s in
    let work = c.args.work.now in
    let tab = table_of work in
    let n = c.transactions-count.result in
    let count = sym c.transactions-count.ensures in
    let next : NextOther tab s.u s.a n n = subst (λ (n : ℕ). NextOther tab s.u s.a n n) count (other-end c.requires.chosen.is_task) in
    let none : OthersFrom tab s.u s.a (n + 1) work = subst (λ (n : ℕ). OthersFrom tab s.u s.a (n + 1) work) count (others-none tab s.u s.a work) in
    let lent = c.requires.lent in
    let last = ended lent c.requires.weighs n in
    let e = sym (ended-table lent c.requires.weighs n) in (
      same_refl others_cell last,
      (
        subst (λ (t : Table). OthersFrom t s.u s.a n last) e (others_put (omega (arith, lent.size, lent.table.kept.few_transactions)) none next),
        subst (λ (t : Table). NextOther t s.u s.a n n) e next,
      ),
    )

pub invariant_of-cells : goal.invariant_of-cells
invariant_of-cells c =
    let (lent, (weighs, e)) = leaves c.requires.lent c.requires.weighs c.transactions-count.result c.loop-i.work c.loop-i.invariant.0 in
    (lent, weighs)

pub is_idle-requires : goal.is_idle-requires
is_idle-requires c =
    let e = (leaves c.requires.lent c.requires.weighs c.transactions-count.result c.loop-i.work c.loop-i.invariant.0).1.1 in
    rw e (omega (arith, c.transactions-count.ensures))

pub loop-i-preserved : goal.loop-i-preserved
loop-i-preserved c =
    let s = c.args.s in
    let i = c.loop-i.i - 1 in
    let n = c.transactions-count.result in
    let last = ended c.requires.lent c.requires.weighs n in
    let tab = table_of last in
    let (same, (done, next)) = c.loop-i.invariant in
    let (lent, (weighs, e)) = leaves c.requires.lent c.requires.weighs n c.loop-i.work same in
    let f = ended-table c.requires.lent c.requires.weighs n in
    let back : c.loop-i.i ≡ i + 1 = omega arith in
    let now : NextOther tab s.u s.a i c.if-not-is_idle.next =
    elim c.if-not-is_idle.branch [
      | then-not-is_idle w ↦ rw w.next-is
          (other-self (rw f (omega (arith, c.transactions-count.ensures))) (c.is_idle.ensures.not_i w.if-not-is_idle.true))
      | else-not-is_idle w ↦ rw w.next-is
          (other-idle (subst (λ (t : Table). Idle t s.u s.a i) (e ∙ sym f) (c.is_idle.ensures.idle w.if-not-is_idle.false))
          (subst (λ (n : ℕ). NextOther tab s.u s.a n c.loop-i.next) back next))
    ] in
    let before = subst (λ (n : ℕ). OthersFrom tab s.u s.a n c.loop-i.work) back done in (
      same_set others_cell last c.loop-i.work (others_cell + i) c.if-not-is_idle.next (omega arith) same,
      (others_put (omega (arith, lent.size, c.requires.lent.table.kept.few_transactions, c.transactions-count.ensures)) before now, now),
    )

pub returns : goal.returns
returns c =
    let s = c.args.s in
    let work = c.args.work.now in
    let n = c.transactions-count.result in
    let (same, (done, next)) = c.loop-i.invariant in
    let none : c.loop-i.i ≡ 0 = omega arith in
    let all = subst (λ (t : Table). OthersFrom t s.u s.a c.loop-i.i c.loop-i.work) (ended-table c.requires.lent c.requires.weighs n) done in record {
      others_from = subst (λ (i : ℕ). OthersFrom (table_of work) s.u s.a i c.loop-i.work) none all;
      same_to = same-trans (ended-same c.requires.lent c.requires.weighs n) same;
    }
