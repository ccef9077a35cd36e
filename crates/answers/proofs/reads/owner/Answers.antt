-- The transaction that the row says a task is of. Assumes nothing.
use mathlib.Core.Path.{◌≡◌, sym, ap, ◌∙◌}
use Prim.Native.Nat.{ℕ}
use Rattle.table.specs.Number.{number}
use Rattle.table.proofs.Number.{place}
use Rattle.row.specs.Row.{owner_cell, table_of, body_cell}
use Rattle.row.proofs.Fields.{read-owner}
use Rattle.answers.proofs.reads.owner.Goals as goal

pub returns : goal.returns
unfolding number
returns c =
    let s = c in
    let row = s.args.work.now in
    let p = place (table_of row) s.args.k s.requires.k_bound in
    let e : c.owner.result ≡ p.u =
    c.owner.ensures
    ∙ ap (λ (n : ℕ). body_cell row n owner_cell) (sym p.numbered)
    ∙ read-owner s.requires.row_of_table p.is_task in
    rw e (record { place = p.j; is_task = p.is_task; numbered = p.numbered })
