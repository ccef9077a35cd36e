-- The loop has linked the settings of the tasks from number k on, and `next` is the next setting from there. Assumes nothing.
use mathlib.Core.Path.{◌≡◌, subst, sym}
use Prim.Native.Nat.{ℕ, ◌+◌, ◌-◌, ◌*◌}
use native.Mathlib.Omega.{arith}
use Rattle.row.specs.Row.{table_of}
use Rattle.table.specs.Table.{Table}
use Rattle.table.specs.Limits.{modes_most}
use Rattle.charge.specs.Links.{NextSetting}
use Rattle.answers.specs.Work.{settings_cell}
use Rattle.answers.specs.Parts.{LinkedFrom}
use Rattle.answers.proofs.Filling.{same_refl, same-trans}
use Rattle.answers.proofs.Linking.{weighs-same, linked-none}
use Rattle.charge.proofs.Links.{setting-end}
use Rattle.answers.proofs.links.link_settings.Goals as goal

pub loop-k-init : goal.loop-k-init
loop-k-init c =
    let s = c.args.s in
    let work = c.args.work.now in
    let tab = table_of work in
    let all = sym c.in_all-count.ensures in (
      same_refl settings_cell work,
      (
        subst (λ (k : ℕ). LinkedFrom tab s.u s.a k work) all (linked-none tab s.u s.a work),
        subst (λ (k : ℕ). NextSetting tab s.u s.a (modes_most * k) (modes_most * k)) all (setting-end c.requires.lent.table.kept s.u s.a),
      ),
    )

pub link_task-next-requires : goal.link_task-next-requires
link_task-next-requires c =
    let s = c.args.s in
    let k = c.loop-k.k - 1 in
    let tab = table_of c.args.work.now in
    let (same, (done, next)) = c.loop-k.invariant in
    let (lent, (weighs, e)) = weighs-same c.requires.lent c.requires.weighs c.loop-k.work same in
    let back : c.loop-k.k ≡ k + 1 = omega arith in record {
      lent = lent;
      weighs = weighs;
      k_bound = rw e (omega (arith, c.in_all-count.ensures));
      next_setting = rw e (subst (λ (n : ℕ). NextSetting tab s.u s.a (modes_most * n) c.loop-k.next) back next);
      linked_from = rw e (subst (λ (n : ℕ). LinkedFrom tab s.u s.a n c.loop-k.work) back done);
    }

pub loop-k-preserved : goal.loop-k-preserved
loop-k-preserved c =
    let s = c.args.s in
    let k = c.loop-k.k - 1 in
    let same = c.loop-k.invariant.0 in
    let e = (weighs-same c.requires.lent c.requires.weighs c.loop-k.work same).1.1 in
    let linked = c.link_task-next.ensures in (
      same-trans same linked.same_to,
      (
        subst (λ (t : Table). LinkedFrom t s.u s.a k c.link_task-next.new.work) e linked.linked_from_2,
        subst (λ (t : Table). NextSetting t s.u s.a (modes_most * k) c.link_task-next.result) e linked.next_setting_2,
      ),
    )

pub returns : goal.returns
returns c =
    let x = c.args in
    let (same, (done, next)) = c.loop-k.invariant in
    let none : c.loop-k.k ≡ 0 = omega arith in
    record { linked_from = subst (λ (k : ℕ). LinkedFrom (table_of x.work.now) x.s.u x.s.a k c.loop-k.work) none done; same_to = same }
