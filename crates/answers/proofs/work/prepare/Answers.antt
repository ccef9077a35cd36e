-- `prepare` meets its contract. The invariant: the candidates with numbers below k have their cells, and in front of them stands the
-- table's row as it was.
use mathlib.Core.Path.{◌≡◌, subst, ◌∙◌}
use Prim.Native.Nat.{ℕ}
use native.Mathlib.Omega.{arith}
use Rattle.table.specs.Number.{in_all}
use Rattle.row.specs.Row.{row_cells, table_of}
use Rattle.answers.specs.Parts.{Phased}
use Rattle.answers.proofs.Filling.{same_refl, same-trans, same_row, phased-none, prepared}
use Rattle.answers.proofs.work.prepare.Goals as goal

pub loop-k-init : goal.loop-k-init
loop-k-init c =
    let work = c.args.work.now in
    (phased-none (table_of work) work, same_refl row_cells work)

pub put_phases-requires : goal.put_phases-requires
put_phases-requires c =
    let (done, same) = c.loop-k.invariant in
    let (row, e) = same_row c.requires.row_of_table same in record {
      row_of_table = row;
      work_len = same.size ∙ c.requires.work_len;
      k_bound = rw e (omega (arith, c.in_all-count.ensures));
      phased = rw e done;
    }

pub loop-k-preserved : goal.loop-k-preserved
loop-k-preserved c =
    let (done, same) = c.loop-k.invariant in
    let e = (same_row c.requires.row_of_table same).1 in
    (rw e at c.put_phases.ensures.phased_2, same-trans same c.put_phases.ensures.same_to)

pub returns : goal.returns
returns c =
    let tab = table_of c.args.work.now in
    let (done, same) = c.loop-k.invariant in
    let last : c.loop-k.k ≡ in_all tab = omega (arith, c.in_all-count.ensures) in
    let made =
    prepared c.requires.row_of_table c.loop-k.work (same.size ∙ c.requires.work_len) same.front
    (subst (λ (k : ℕ). Phased tab k c.loop-k.work) last done) in
    record { lent = made.0; work_unchanged = made.1 }
