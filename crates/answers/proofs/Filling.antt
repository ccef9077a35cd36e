-- Filling the work cells: one store, a task by its number, and the part that is filled once for a table.
use mathlib.Core.Path.{◌≡◌, refl, sym, ap, ap₂, ◌∙◌, subst}
use mathlib.Core.List.{List}
use Prim.Native.Nat.{ℕ, ◌+◌, ◌-◌, ◌*◌, ◌≤◌, ◌<◌}
use native.Mathlib.Decide.{ℕ_discrete}
use native.Mathlib.Omega.{arith}
use lib.ListN.{length, get_or, take, set, length-set}
use lib.Seq.{get_or-set_same, get_or-set_other, get_or-take, take-take, take-set-le}
use Rattle.table.specs.Table.{Table, IsTask, tasks}
use Rattle.table.specs.Limits.{tasks_most, tasks_in_all}
use Rattle.table.specs.Number.{before, in_all, number}
use Rattle.table.specs.Kept.{Kept}
use Rattle.table.proofs.Number.{place, number_lt, number-unique}
use Rattle.table.proofs.Ranges.{tasks-few}
use Rattle.row.specs.Row.{first_cell, owner_cell, row_cells, table_of, head_cell, body_cell, RowOfTable}
use Rattle.row.proofs.Fields.{read_first, read-owner}
use Rattle.row.proofs.Longer.{same-held, longer}
use Rattle.analysis.specs.Charge.{phase_of, held_of}
use Rattle.answers.specs.Work.{phases_cell, held_cell, weights_cell, work_cells, Lent}
use Rattle.answers.specs.Parts.{SameTo, Phased}

-- ---- one store, and what lies below it

-- cell q holds x if the store at p puts it there, or leaves it there
pub stored :
    (row : List ℕ) (p v q : ℕ) {x : ℕ}
    → p < length row
    → (q ≡ p → v ≡ x)
    → (¬ (q ≡ p) → get_or row q 0 ≡ x)
    → get_or (set row p v) q 0 ≡ x
stored row p v q room here there =
    elim (ℕ_discrete q p) [
      | yes e ↦ ap (λ (n : ℕ). get_or (set row p v) n 0) e ∙ get_or-set_same row p v 0 room ∙ here e
      | no h ↦ get_or-set_other row p q v 0 h ∙ there h
    ]

-- rows that agree in their first n cells

pub same_refl : (n : ℕ) (row : List ℕ) → SameTo n row row
same_refl n row = record { size = refl; front = refl }

pub same-trans : {n : ℕ} {old row next : List ℕ} → SameTo n old row → SameTo n row next → SameTo n old next
same-trans x y = record { size = y.size ∙ x.size; front = y.front ∙ x.front }

-- a store from n on
pub same_set : (n : ℕ) (old row : List ℕ) (p v : ℕ) → n ≤ p → SameTo n old row → SameTo n old (set row p v)
same_set n old row p v h x = record { size = simp length-set x.size; front = take-set-le n row p v h ∙ x.front }

pub same-less : {m n : ℕ} {old row : List ℕ} → m ≤ n → SameTo n old row → SameTo m old row
same-less {m} {n} {old} {row} h x =
    record { size = x.size; front = sym (take-take m n row h) ∙ ap (take m) x.front ∙ take-take m n old h }

pub same-cell : {n : ℕ} {old row : List ℕ} → SameTo n old row → (p : ℕ) {x : ℕ} → p < n → get_or old p 0 ≡ x → get_or row p 0 ≡ x
same-cell {n} {old} {row} same p h e =
    sym (get_or-take n row p 0 h) ∙ ap (λ (l : List ℕ). get_or l p 0) same.front ∙ get_or-take n old p 0 h ∙ e

-- ---- a table's row

-- stores behind it leave it, and its table
pub same_row : {old row : List ℕ} → RowOfTable old → SameTo row_cells old row → RowOfTable row × (table_of row ≡ table_of old)
same_row {old} {row} x same = (longer x same.front, same-held old row x.kept same.front)

-- the transaction of task number k, and its place there
pub found :
    {row : List ℕ} {k u f : ℕ}
    → RowOfTable row
    → k < in_all (table_of row)
    → u ≡ body_cell row k owner_cell
    → f ≡ head_cell row u first_cell
    → (f ≤ k) × (IsTask (table_of row) u (k - f) × (number (table_of row) u (k - f) ≡ k))
unfolding number
found {row} {k} {u} {f} x h e g =
    let p = place (table_of row) k h in
    let numbered : before (table_of row) p.u + p.j ≡ k = p.numbered in
    let same : p.u ≡ u =
    sym (e ∙ ap (λ (n : ℕ). body_cell row n owner_cell) (sym numbered) ∙ read-owner x p.is_task) in
    let is_task : IsTask (table_of row) u p.j = subst (λ (v : ℕ). IsTask (table_of row) v p.j) same p.is_task in
    let first : f ≡ before (table_of row) p.u = g ∙ read_first x is_task.owner ∙ ap (before (table_of row)) (sym same) in
    let j : p.j ≡ k - f = omega arith in
    (omega arith, (subst (IsTask (table_of row) u) j is_task, omega (arith, ap (before (table_of row)) same)))

-- ---- phases and held-back jobs

-- those of the candidates with numbers below k, and the first n of candidate number k, task c of transaction i
pub record PhasesTo (tab : Table) (k i c n : ℕ) (old row : List ℕ) : Type 0 where
  pub same : SameTo row_cells old row
  pub done : Phased tab k row
  pub phases : (j : ℕ) → j < n → get_or row (phases_cell + tasks_most * k + j) 0 ≡ phase_of tab i c j
  pub held : (j : ℕ) → j < n → get_or row (held_cell + tasks_most * k + j) 0 ≡ held_of tab i c j

module _ {tab : Table} (kept : Kept tab) (i c : ℕ) (old : List ℕ) where
  pub phases-none : (k : ℕ) → Phased tab k old → PhasesTo tab k i c 0 old old
  phases-none k done =
      record { same = same_refl row_cells old; done = done; phases = λ j l. absurd (omega arith); held = λ j l. absurd (omega arith) }

  pub phases-next :
      (k n v w : ℕ) (row : List ℕ)
      → k < tasks_in_all
      → n < tasks_most
      → length row ≡ work_cells
      → v ≡ phase_of tab i c n
      → w ≡ held_of tab i c n
      → PhasesTo tab k i c n old row
      → PhasesTo tab k i c (n + 1) old (set (set row (phases_cell + tasks_most * k + n) v) (held_cell + tasks_most * k + n) w)
  phases-next k n v w row few short long phase held x =
      record {
        same = same_set row_cells old one at_held w (omega arith) (same_set row_cells old row at-phase v (omega arith) x.same);
        done =
            record {
              phases = λ i c j is are below.
                  let small = tasks-few kept are.owner in
                  two (phases_cell + tasks_most * number tab i c + j) (λ e. absurd (omega (arith, are.place))) (λ e. absurd (omega (arith, are.place))) (λ d. x.done.phases i c j is are below);
              held = λ i c j is are below.
                  let small = tasks-few kept are.owner in
                  two (held_cell + tasks_most * number tab i c + j) (λ e. absurd (omega (arith, are.place))) (λ e. absurd (omega (arith, are.place))) (λ d. x.done.held i c j is are below);
            };
        phases = λ j l.
            two (phases_cell + tasks_most * k + j) (λ e. absurd (omega arith)) (λ e. phase ∙ ap (phase_of tab i c) (omega arith))
            (λ d. x.phases j (omega arith));
        held = λ j l.
            two (held_cell + tasks_most * k + j) (λ e. held ∙ ap (held_of tab i c) (omega arith)) (λ e. absurd (omega arith))
            (λ d. x.held j (omega arith));
      }
    where
      at-phase : ℕ
      at-phase = phases_cell + tasks_most * k + n

      at_held : ℕ
      at_held = held_cell + tasks_most * k + n

      one : List ℕ
      one = set row at-phase v

      two :
          (q : ℕ) {y : ℕ}
          → (q ≡ at_held → w ≡ y)
          → (q ≡ at-phase → v ≡ y)
          → (¬ (q ≡ at-phase) × ¬ (q ≡ at_held) → get_or row q 0 ≡ y)
          → get_or (set one at_held w) q 0 ≡ y
      two q second first other =
          stored one at_held w q (simp length-set (omega arith)) second
          (λ h. stored row at-phase v q (omega arith) first (λ g. other (g, h)))

  pub phases-all :
      (k : ℕ) (row : List ℕ)
      → IsTask tab i c
      → number tab i c ≡ k
      → PhasesTo tab k i c (tasks tab i) old row
      → Phased tab (k + 1) row
  phases-all k row is_task numbered x = record { phases = phases; held = held }
    where
      phases : (v d j : ℕ) → IsTask tab v d → IsTask tab v j → number tab v d < k + 1 → get_or row (phases_cell + tasks_most * number tab v d + j) 0 ≡ phase_of tab v d j
      phases v d j is are l =
          elim (ℕ_discrete (number tab v d) k) [
            | yes e ↦
                let (p, q) = number-unique tab is is_task (e ∙ sym numbered) in
                let there : j < tasks tab i = subst (λ (u : ℕ). j < tasks tab u) p are.place in
                ap (λ (n : ℕ). get_or row (phases_cell + tasks_most * n + j) 0) e
                ∙ x.phases j there
                ∙ ap₂ (λ (u a : ℕ). phase_of tab u a j) (sym p) (sym q)
            | no h ↦ x.done.phases v d j is are (omega arith)
          ]

      held : (v d j : ℕ) → IsTask tab v d → IsTask tab v j → number tab v d < k + 1 → get_or row (held_cell + tasks_most * number tab v d + j) 0 ≡ held_of tab v d j
      held v d j is are l =
          elim (ℕ_discrete (number tab v d) k) [
            | yes e ↦
                let (p, q) = number-unique tab is is_task (e ∙ sym numbered) in
                let there : j < tasks tab i = subst (λ (u : ℕ). j < tasks tab u) p are.place in
                ap (λ (n : ℕ). get_or row (held_cell + tasks_most * n + j) 0) e
                ∙ x.held j there
                ∙ ap₂ (λ (u a : ℕ). held_of tab u a j) (sym p) (sym q)
            | no h ↦ x.done.held v d j is are (omega arith)
          ]

-- no candidate has a number below 0
pub phased-none : (tab : Table) (row : List ℕ) → Phased tab 0 row
phased-none tab row =
    record { phases = λ i c j is are l. absurd (omega arith); held = λ i c j is are l. absurd (omega arith) }

-- stores from the weights on leave phases and held-back jobs
phased-same :
    {tab : Table} (kept : Kept tab) {old row : List ℕ}
    → SameTo weights_cell old row
    → Phased tab (in_all tab) old
    → Phased tab (in_all tab) row
phased-same {tab} kept same x =
    record {
      phases = λ i c j is are l.
          let small = tasks-few kept are.owner in
          same-cell same (phases_cell + tasks_most * number tab i c + j) (omega (arith, are.place, kept.few_tasks))
          (x.phases i c j is are l);
      held = λ i c j is are l.
          let small = tasks-few kept are.owner in
          same-cell same (held_cell + tasks_most * number tab i c + j) (omega (arith, are.place, kept.few_tasks))
          (x.held i c j is are l);
    }

-- ---- the work cells of a table

pub prepared :
    {table : List ℕ}
    → RowOfTable table
    → (row : List ℕ)
    → length row ≡ work_cells
    → take row_cells row ≡ take row_cells table
    → Phased (table_of table) (in_all (table_of table)) row
    → Lent row × (table_of row ≡ table_of table)
prepared {table} x row long e phased =
    let same = same-held table row x.kept e in
    let all = subst (λ (tab : Table). Phased tab (in_all tab) row) (sym same) phased in (
      record {
        size = long;
        table = longer x e;
        phases = λ i c j is are. all.phases i c j is are (number_lt (table_of row) is);
        held = λ i c j is are. all.held i c j is are (number_lt (table_of row) is);
      },
      same,
    )

-- and back
lent-phased : {row : List ℕ} → Lent row → (tab : Table) → table_of row ≡ tab → Phased tab (in_all tab) row
lent-phased {row} lent tab e =
    subst (λ (t : Table). Phased t (in_all t) row) e
    (record { phases = λ i c j is are l. lent.phases i c j is are; held = λ i c j is are l. lent.held i c j is are })

-- stores from the weights on leave the work cells of its table
pub lent_same : {old : List ℕ} → Lent old → (row : List ℕ) → SameTo weights_cell old row → Lent row × (table_of row ≡ table_of old)
lent_same {old} lent row same =
    let front : take row_cells row ≡ take row_cells old = (same-less {m = row_cells} (omega arith) same).front in
    let table = same-held old row lent.table.kept front in
    let phased =
    subst (λ (tab : Table). Phased tab (in_all tab) row) (sym table)
    (phased-same lent.table.kept same (lent-phased lent (table_of old) refl)) in (
      record {
        size = same.size ∙ lent.size;
        table = longer lent.table front;
        phases = λ i c j is are. phased.phases i c j is are (number_lt (table_of row) is);
        held = λ i c j is are. phased.held i c j is are (number_lt (table_of row) is);
      },
      table,
    )
