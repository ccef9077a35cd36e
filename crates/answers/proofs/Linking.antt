-- Filling the links of the work cells: over the settings that are charged, and over the other transactions with a rival. Both go
-- from the last to the first.
use mathlib.Core.Path.{◌≡◌, refl, sym, ◌∙◌, subst}
use mathlib.Core.List.{List}
use Prim.Native.Nat.{ℕ, ◌+◌, ◌*◌, ◌≤◌, ◌<◌}
use native.Mathlib.Decide.{ℕ_discrete}
use native.Mathlib.Omega.{arith}
use lib.ListN.{length, get_or, set}
use lib.Seq.{get_or-set_same, get_or-set_other}
use Rattle.row.specs.Row.{table_of}
use Rattle.table.specs.Table.{Table, IsTask, transactions, modes}
use Rattle.table.specs.Limits.{modes_most, tasks_in_all}
use Rattle.table.specs.Number.{in_all, number}
use Rattle.table.specs.Kept.{Kept}
use Rattle.table.proofs.Number.{number_lt, number-unique}
use Rattle.answers.specs.declared.charges.Subject.{Subject}
use Rattle.charge.specs.Links.{setting_number, NextSetting, NextOther}
use Rattle.answers.specs.Work.{settings_cell, others_cell, work_cells, Lent, Chosen, Weighs, IsSubject}
use Rattle.answers.specs.Parts.{SameTo, LinkedFrom, OthersFrom}
use Rattle.charge.proofs.Links.{setting-le}
use Rattle.answers.proofs.Filling.{same-less, same-cell, lent_same}
use Rattle.answers.proofs.Weighing.{subject-same}

-- ---- stores from the links on leave the work cells of its table, with its weights

pub weighs-same :
    {old : List ℕ} {s : Subject}
    → Lent old
    → Weighs old s
    → (work : List ℕ)
    → SameTo settings_cell old work
    → Lent work × (Weighs work s × (table_of work ≡ table_of old))
weighs-same {s = s} lent weighs work same =
    let (now, table) = lent_same lent work (same-less (omega arith) same) in
    (now, (subject-same s table lent.table.kept same weighs, table))

-- ---- one store

-- a link in its cell, the cells from p on, beside those that are there
link_set :
    (Next : ℕ → ℕ → Type 0) (p : ℕ) (work : List ℕ) (z v y : ℕ)
    → p + z < length work
    → Next z v
    → (¬ (y ≡ z) → Next y (get_or work (p + y) 0))
    → Next y (get_or (set work (p + z) v) (p + y) 0)
link_set Next p work z v y room here there =
    elim (ℕ_discrete y z) [
      | yes e ↦
          subst (λ (n : ℕ). Next n (get_or (set work (p + z) v) (p + n) 0)) (sym e)
          (rw (get_or-set_same work (p + z) v 0 room) here)
      | no h ↦ rw (get_or-set_other work (p + z) (p + y) v 0 (λ e. h (omega arith))) (there h)
    ]

-- ---- settings

-- the links of the tasks with numbers above k, and from mode n on those of task number k of transaction i; v is the next
-- work from there on
pub record LinksFrom (tab : Table) (u a k i n v : ℕ) (work : List ℕ) : Type 0 where
  pub done : LinkedFrom tab u a (k + 1) work
  pub settings : (m : ℕ) → n ≤ m → m ≤ modes tab i → NextSetting tab u a (modes_most * k + m) (get_or work (settings_cell + (modes_most * k + m)) 0)
  pub next : NextSetting tab u a (modes_most * k + n) v

-- none is behind the last task
pub linked-none : (tab : Table) (u a : ℕ) (work : List ℕ) → LinkedFrom tab u a (in_all tab) work
linked-none tab u a work = record { settings = λ i m c is l from. absurd (omega (arith, number_lt tab is)) }

module _ (tab : Table) (u a : ℕ) where
  pub links-put :
      {k i n v : ℕ} {work : List ℕ}
      → k < tasks_in_all
      → n ≤ modes_most
      → length work ≡ work_cells
      → LinkedFrom tab u a (k + 1) work
      → ((m : ℕ) → n + 1 ≤ m → m ≤ modes tab i → NextSetting tab u a (modes_most * k + m) (get_or work (settings_cell + (modes_most * k + m)) 0))
      → NextSetting tab u a (modes_most * k + n) v
      → LinksFrom tab u a k i n v (set work (settings_cell + (modes_most * k + n)) v)
  links-put {k} {i} {n} {v} {work} few short long done settings next =
      record {
        done =
            record { settings = λ j m c is l from. link_set (NextSetting tab u a) settings_cell work (modes_most * k + n) v (setting_number tab j m c) (omega arith) next (λ h. done.settings j m c is l from) };
        settings = λ m from l.
            link_set (NextSetting tab u a) settings_cell work (modes_most * k + n) v (modes_most * k + m) (omega arith) next (λ h. settings m (omega arith) l);
        next = next;
      }

  pub links-all : {k i c v : ℕ} {work : List ℕ} → IsTask tab i c → number tab i c ≡ k → LinksFrom tab u a k i 0 v work → LinkedFrom tab u a k work
  unfolding setting_number
  links-all {k} {i} {c} {work = work} is numbered x =
      record {
        settings = λ j m d are l from.
            elim (ℕ_discrete (number tab j d) k) [
              | yes e ↦
                  let p = (number-unique tab are is (e ∙ sym numbered)).0 in
                  subst (λ (q : ℕ). NextSetting tab u a (modes_most * q + m) (get_or work (settings_cell + (modes_most * q + m)) 0)) (sym e)
                  (x.settings m (omega arith) (subst (λ (w : ℕ). m ≤ modes tab w) p l))
              | no h ↦ x.done.settings j m d are l (omega arith)
            ];
      }

-- stores behind the rows' links leave them
pub linked-same :
    {tab : Table} (kept : Kept tab) (u a : ℕ) {k : ℕ} {old work : List ℕ}
    → SameTo others_cell old work
    → LinkedFrom tab u a k old
    → LinkedFrom tab u a k work
linked-same {tab} kept u a same x =
    record {
      settings = λ i m c is l from.
          rw (same-cell same (settings_cell + setting_number tab i m c) (omega (arith, setting-le kept u a is l, kept.few_tasks)) refl) (x.settings i m c is l from);
    }

-- ---- other transactions

pub others-none : (tab : Table) (u a : ℕ) (work : List ℕ) → OthersFrom tab u a (transactions tab + 1) work
others-none tab u a work = record { others = λ j from l. absurd (omega arith) }

module _ {tab : Table} {u a : ℕ} where
  pub others_put :
      {i v : ℕ} {work : List ℕ}
      → others_cell + i < length work
      → OthersFrom tab u a (i + 1) work
      → NextOther tab u a i v
      → OthersFrom tab u a i (set work (others_cell + i) v)
  others_put {i} {v} {work} room x next =
      record {
        others = λ j from l. link_set (NextOther tab u a) others_cell work i v j room next (λ h. x.others j (omega arith) l);
      }

-- ---- the work cells of the subject

pub linked-subject :
    (work : List ℕ) (tab : Table) (s : Subject)
    → table_of work ≡ tab
    → Chosen tab s
    → Weighs work s
    → LinkedFrom tab s.u s.a 0 work
    → OthersFrom tab s.u s.a 0 work
    → IsSubject work s
linked-subject work tab s e chosen weighs linked others =
    let linked_at = subst (λ (t : Table). LinkedFrom t s.u s.a 0 work) (sym e) linked in
    let others_at = subst (λ (t : Table). OthersFrom t s.u s.a 0 work) (sym e) others in
    record {
      chosen = subst (λ (t : Table). Chosen t s) (sym e) chosen;
      weighs = weighs;
      settings = λ i m c is l. linked_at.settings i m c is l (omega arith);
      others = λ i l. others_at.others i (omega arith) l;
    }
