use mathlib.Core.Path.{◌≡◌}
use mathlib.Core.List.{List}
use Prim.Native.Nat.{ℕ}
use Rattle.row.specs.Row.{table_of}
use Rattle.table.specs.Table.{Table}
use Rattle.account.specs.Account.{charges_cell, charge_cells, laid, charge_of}
use Rattle.answers.specs.declared.charges.Subject.{Subject}
use Rattle.answers.proofs.accounts.put_charges.Given as goal

-- the cells of transaction i
abbrev pub group : Table → Subject → (t i : ℕ) → List ℕ
group tab s t i = charge_cells (charge_of tab s.u s.a t i)

abbrev pub invariant-loop-i : goal.invariant-loop-i
invariant-loop-i l = l.cells ≡ laid charges_cell l.i (group (table_of l.work) l.s l.t) l.initial.cells
