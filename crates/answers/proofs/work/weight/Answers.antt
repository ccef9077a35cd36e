-- Each way out gives the weight: 0 of a task that is not urgent or is the subject itself, else the time. Assumes nothing.
use mathlib.Core.Path.{◌≡◌, sym, ◌∙◌}
use mathlib.Core.List.{List}
use Prim.Native.Nat.{ℕ, ◌+◌}
use native.Mathlib.Omega.{arith}
use lib.ListN.{get_or}
use Rattle.table.specs.Number.{before, number}
use Rattle.table.specs.Table.{IsTask, priority}
use Rattle.row.specs.Row.{task_cell, priority_cell, table_of}
use Rattle.row.proofs.Held.{held-priority, held-time}
use Rattle.charge.proofs.Weights.{weight-none, weight-time}
use Rattle.answers.proofs.work.weight.Goals as goal
use Rattle.answers.proofs.work.weight.Goals.{else-i-s-via-then-i-s+else-j-s, else-i-s-via-else-i-s}

urgency :
    (work : List ℕ) {i j k : ℕ}
    → IsTask (table_of work) i j
    → k ≡ before (table_of work) i + j
    → get_or work (task_cell k + priority_cell) 0 ≡ priority (table_of work) i j
unfolding number
urgency work is numbered = rw numbered (sym (held-priority work is))

pub returns-then-work-cell : goal.returns-then-work-cell
returns-then-work-cell c =
    sym (weight-none _ _ _ _ _ _ (λ r. omega (arith, r.urgent, urgency c.args.work.now c.requires.task c.requires.k_value, c.requires.chosen.priority)))

pub returns-then-j-s : goal.returns-then-j-s
returns-then-j-s c = sym (weight-none _ _ _ _ _ _ (λ r. r.other (c.if-i-s.true, c.if-j-s.true)))

pub returns : goal.returns
unfolding number
returns c =
    let x = c.args in
    let is = c.requires.task in
    rw c.requires.k_value (sym (held-time x.work.now is c.requires.m_bound))
    ∙ sym
    (weight-time (table_of x.work.now) x.s.u x.s.a x.i x.m x.j
    (omega (arith, urgency x.work.now is c.requires.k_value, c.requires.chosen.priority))
    (λ b. elim c.else-i-s.branch [ else-i-s-via-then-i-s+else-j-s w ↦ w.if-j-s.false b.1 | else-i-s-via-else-i-s w ↦ w.if-i-s.false b.0 ]))
