-- The loop has linked the rows of task number k from mode m on, and `next` is the next work from there. Assumes nothing.
use mathlib.Core.Path.{◌≡◌, subst, sym, ◌∙◌}
use mathlib.Core.List.{List}
use Prim.Native.Nat.{ℕ, ◌+◌, ◌-◌, ◌*◌, ◌≤◌, ◌<◌}
use native.Mathlib.Omega.{arith}
use lib.ListN.{set}
use Rattle.table.specs.Table.{Table, IsTask, modes as modes_in}
use Rattle.table.specs.Limits.{modes_most, tasks_in_all}
use Rattle.table.specs.Number.{number}
use Rattle.table.proofs.Ranges.{modes-few}
use Rattle.charge.specs.Links.{Spare, NextSetting}
use Rattle.charge.specs.Weight.{weight}
use Rattle.answers.specs.Work.{settings_cell, Lent, Weighs}
use Rattle.answers.specs.Parts.{SameTo}
use Rattle.answers.proofs.Filling.{same_refl, same_set, same-trans}
use Rattle.answers.proofs.Linking.{weighs-same, LinksFrom, links-put, links-all}
use Rattle.charge.proofs.Links.{setting-behind, setting-charged, setting-spare}
use Rattle.row.specs.Row.{table_of}
use Rattle.table.specs.Number.{before, in_all}
use Rattle.answers.specs.Lent.{Owner}
use Rattle.answers.specs.declared.charges.Subject.{Subject}
use Rattle.answers.proofs.links.link_task.Goals as goal
use Rattle.answers.proofs.links.link_task.Goals.{then-is_charged, else-is_charged}

-- the task, and what is known once its modes are read
record Here (old : List ℕ) (s : Subject) (k i first many : ℕ) : Type 0 where
  lent : Lent old
  weighs : Weighs old s
  inside : k < in_all (table_of old)
  owned : Owner (table_of old) k i
  first_is : first ≡ before (table_of old) i
  many_is : many ≡ modes_in (table_of old) i

module _ {old : List ℕ} {s : Subject} {k i first many : ℕ} (h : Here old s k i first many) where
  place : IsTask (table_of old) i (k - first) × (number (table_of old) i (k - first) ≡ k)
  unfolding number
  place =
      let is = h.owned in
      let here : is.place ≡ k - first = omega (arith, h.first_is, is.numbered) in
      (subst (IsTask (table_of old) i) here is.is_task, omega (arith, h.first_is, is.numbered))

  small : (k < tasks_in_all) × (many ≤ modes_most)
  small =
      let kept = h.lent.table.kept in
      (omega (arith, h.inside, kept.few_tasks), omega (arith, h.many_is, modes-few kept h.owned.is_task.owner))

  module _ (after : ℕ) where
    -- the cells with the link behind its last mode
    abbrev begun : List ℕ
    begun = set old (settings_cell + (modes_most * k + many)) after

    begun-same : SameTo settings_cell old begun
    begun-same = same_set settings_cell old old (settings_cell + (modes_most * k + many)) after (omega arith) (same_refl settings_cell old)

    -- rows are of the same table from there on
    leaves : (work : List ℕ) → SameTo settings_cell begun work → Lent work × (Weighs work s × (table_of work ≡ table_of old))
    leaves work same = weighs-same h.lent h.weighs work (same-trans begun-same same)

    begun-table : table_of begun ≡ table_of old
    begun-table = (leaves begun (same_refl settings_cell begun)).1.1

pub overflow_sub-c : goal.overflow_sub-c
overflow_sub-c c = omega (arith, c.before-2.ensures, c.owner-i.ensures.numbered)

pub loop-m-init : goal.loop-m-init
loop-m-init c =
    let h : Here c.args.work.now c.args.s c.args.k c.owner-i.result c.before-2.result c.modes-modes.result =
    record {
      lent = c.requires.lent;
      weighs = c.requires.weighs;
      inside = c.requires.k_bound;
      owned = c.owner-i.ensures;
      first_is = c.before-2.ensures;
      many_is = c.modes-modes.ensures;
    } in
    let x = c.args in
    let tab = table_of x.work.now in
    let after : NextSetting tab x.s.u x.s.a (modes_most * x.k + c.modes-modes.result) x.after =
    subst (λ (m : ℕ). NextSetting tab x.s.u x.s.a (modes_most * x.k + m) x.after) (sym c.modes-modes.ensures)
    (setting-behind c.requires.lent.table.kept x.s.u x.s.a (place h).0 (place h).1 c.requires.next_setting) in (
      same_refl settings_cell (begun h x.after),
      subst (λ (t : Table). LinksFrom t x.s.u x.s.a x.k c.owner-i.result c.modes-modes.result x.after (begun h x.after)) (sym (begun-table h x.after))
          (links-put tab x.s.u x.s.a (small h).0 (small h).1 c.requires.lent.size c.requires.linked_from (λ m from l. absurd (omega (arith, c.modes-modes.ensures))) after),
    )

pub invariant_of-cells : goal.invariant_of-cells
invariant_of-cells c =
    let h : Here c.args.work.now c.args.s c.args.k c.owner-i.result c.before-2.result c.modes-modes.result =
    record {
      lent = c.requires.lent;
      weighs = c.requires.weighs;
      inside = c.requires.k_bound;
      owned = c.owner-i.ensures;
      first_is = c.before-2.ensures;
      many_is = c.modes-modes.ensures;
    } in
    let (lent, (weighs, e)) = leaves h c.args.after c.loop-m.work c.loop-m.invariant.0 in
    (lent, weighs)

pub is_charged-requires : goal.is_charged-requires
is_charged-requires c =
    let h : Here c.args.work.now c.args.s c.args.k c.owner-i.result c.before-2.result c.modes-modes.result =
    record {
      lent = c.requires.lent;
      weighs = c.requires.weighs;
      inside = c.requires.k_bound;
      owned = c.owner-i.ensures;
      first_is = c.before-2.ensures;
      many_is = c.modes-modes.ensures;
    } in
    let e = (leaves h c.args.after c.loop-m.work c.loop-m.invariant.0).1.1 in
    record { task = rw e (place h).0; m_bound = rw e (omega (arith, c.modes-modes.ensures)) }

pub loop-m-preserved : goal.loop-m-preserved
loop-m-preserved c =
    let h : Here c.args.work.now c.args.s c.args.k c.owner-i.result c.before-2.result c.modes-modes.result =
    record {
      lent = c.requires.lent;
      weighs = c.requires.weighs;
      inside = c.requires.k_bound;
      owned = c.owner-i.ensures;
      first_is = c.before-2.ensures;
      many_is = c.modes-modes.ensures;
    } in
    let x = c.args in
    let n = c.loop-m.m - 1 in
    let i = c.owner-i.result in
    let d = x.k - c.before-2.result in
    let tab = table_of (begun h x.after) in
    let (same, links) = c.loop-m.invariant in
    let (lent, (weighs, e)) = leaves h x.after c.loop-m.work same in
    let kept = (leaves h x.after (begun h x.after) (same_refl settings_cell (begun h x.after))).0.table.kept in
    let here = e ∙ sym (begun-table h x.after) in
    let is : IsTask tab i d = rw (begun-table h x.after) (place h).0 in
    let numbered : number tab i d ≡ x.k = rw (begun-table h x.after) (place h).1 in
    let mode : n < modes_in tab i = rw (begun-table h x.after) (omega (arith, c.modes-modes.ensures)) in
    let back : c.loop-m.m ≡ n + 1 = omega arith in
    let before = subst (λ (m : ℕ). LinksFrom tab x.s.u x.s.a x.k i m c.loop-m.next c.loop-m.work) back links in
    let now : NextSetting tab x.s.u x.s.a (modes_most * x.k + n) c.if-is_charged.next =
    elim c.if-is_charged.branch [
      | then-is_charged w ↦ rw w.next-is
          (setting-charged kept x.s.u x.s.a is numbered mode
          (subst (λ (t : Table). ¬ (weight t x.s.u x.s.a i n d ≡ 0)) here (c.is_charged.ensures.not_weight w.if-is_charged.true)))
      | else-is_charged w ↦ rw w.next-is
          (setting-spare kept x.s.u x.s.a is numbered mode
          (subst (λ (t : Table). Spare t x.s.u x.s.a i n d) here (c.is_charged.ensures.spare w.if-is_charged.false))
          before.next)
    ] in (
      same_set settings_cell (begun h x.after) c.loop-m.work (settings_cell + (modes_most * x.k + n)) c.if-is_charged.next (omega arith) same,
      links-put tab x.s.u x.s.a (small h).0 (omega (arith, (small h).1)) lent.size before.done before.settings now,
    )

pub returns : goal.returns
returns c =
    let h : Here c.args.work.now c.args.s c.args.k c.owner-i.result c.before-2.result c.modes-modes.result =
    record {
      lent = c.requires.lent;
      weighs = c.requires.weighs;
      inside = c.requires.k_bound;
      owned = c.owner-i.ensures;
      first_is = c.before-2.ensures;
      many_is = c.modes-modes.ensures;
    } in
    let x = c.args in
    let tab = table_of x.work.now in
    let none : c.loop-m.m ≡ 0 = omega arith in
    let first : modes_most * x.k + 0 ≡ modes_most * x.k = omega arith in
    let (same, links) = c.loop-m.invariant in
    let all =
    subst (λ (m : ℕ). LinksFrom tab x.s.u x.s.a x.k c.owner-i.result m c.loop-m.next c.loop-m.work) none
    (subst (λ (t : Table). LinksFrom t x.s.u x.s.a x.k c.owner-i.result c.loop-m.m c.loop-m.next c.loop-m.work) (begun-table h x.after) links) in
    record {
      next_setting_2 = subst (λ (z : ℕ). NextSetting tab x.s.u x.s.a z c.loop-m.next) first all.next;
      linked_from_2 = links-all tab x.s.u x.s.a (place h).0 (place h).1 all;
      same_to = same-trans (begun-same h x.after) same;
    }
