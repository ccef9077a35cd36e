use mathlib.Core.Path.{◌≡◌}
use mathlib.Core.List.{List}
use Prim.Native.Nat.{ℕ}
use Rattle.row.specs.Row.{table_of}
use Rattle.table.specs.Table.{Table}
use Rattle.account.specs.Account.{shares_cell, share_cells, laid, share_of}
use Rattle.answers.specs.declared.charges.Subject.{Subject}
use Rattle.answers.specs.Split.{moment}
use Rattle.answers.proofs.accounts.put_shares.Given as goal

-- the cells of place j
abbrev pub group : Table → Subject → (m c t j : ℕ) → List ℕ
group tab s m c t j = share_cells (share_of tab s.u s.a (record { mode = m; candidate = c }) t j)

abbrev pub invariant-loop-j : goal.invariant-loop-j
invariant-loop-j l = l.cells ≡ laid shares_cell l.j (group (table_of l.work) l.s l.by.mode l.by.candidate (moment l.x)) l.initial.cells
