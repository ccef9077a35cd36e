-- The image's refusal, or 13, or 31, or the task in the row of its table.
use Rattle.std.proofs.Common.{◌∙◌, refl, sym, ap, subst, arith}
use Rattle.std.proofs.lemmas.Result.{err_from_is_err_and}
use Rattle.table.specs.Number.{in_all}
use Rattle.beside.specs.Told.{Opens}
use Rattle.jitter.specs.Plain.{Single}
use Rattle.jitter.proofs.Number.{in-all-single}
use Rattle.beside.proofs.Read.{read-row, read_table, read-in-all}
use Rattle.beside.proofs.open.Goals as goal

pub returns-in_err-read_into : goal.returns-in_err-read_into
returns-in_err-read_into c =
    let p = err_from_is_err_and c.from_residual.result c.from_residual.ensures.1 in
    rw (p.1, p.2) (Opens.refused (sym c.read_into.ensures.value ∙ c.in_err-read_into.was))

pub returns-then-in_all-task : goal.returns-then-in_all-task
returns-then-in_all-task c =
    Opens.unknown (sym c.read_into.ensures.value ∙ c.in_ok-read_into.was) (omega (arith, c.if-in_all-task.true, c.in_all.ensures, read-in-all c.args.image.now c.read_into.new.cells _ (sym c.read_into.ensures.value ∙ c.in_ok-read_into.was) c.read_into.ensures.cells_after))

pub is_single-requires : goal.is_single-requires
is_single-requires c = read-row c.args.image.now c.read_into.new.cells _ (sym c.read_into.ensures.value ∙ c.in_ok-read_into.was) c.read_into.ensures.cells_after

pub returns-then-not-is_single : goal.returns-then-not-is_single
returns-then-not-is_single c =
    Opens.several (sym c.read_into.ensures.value ∙ c.in_ok-read_into.was) (omega (arith, c.if-in_all-task.false, c.in_all.ensures, read-in-all c.args.image.now c.read_into.new.cells _ (sym c.read_into.ensures.value ∙ c.in_ok-read_into.was) c.read_into.ensures.cells_after))
    (subst (λ tab. ¬ (Single tab)) (read_table c.args.image.now c.read_into.new.cells _ (sym c.read_into.ensures.value ∙ c.in_ok-read_into.was) c.read_into.ensures.cells_after) c.if-not-is_single.ensures)

pub invariant_of-result : goal.invariant_of-result
invariant_of-result c =
    let table = read_table c.args.image.now c.read_into.new.cells _ (sym c.read_into.ensures.value ∙ c.in_ok-read_into.was) c.read_into.ensures.cells_after in
    record {
      single_row = record { table = read-row c.args.image.now c.read_into.new.cells _ (sym c.read_into.ensures.value ∙ c.in_ok-read_into.was) c.read_into.ensures.cells_after; single = c.if-not-is_single.ensures };
      owner = omega (arith, c.if-in_all-task.false, c.in_all.ensures, read-in-all c.args.image.now c.read_into.new.cells _ (sym c.read_into.ensures.value ∙ c.in_ok-read_into.was) c.read_into.ensures.cells_after, ap in_all table, in-all-single c.if-not-is_single.ensures);
    }

pub returns : goal.returns
returns c =
    Opens.single (sym c.read_into.ensures.value ∙ c.in_ok-read_into.was) (omega (arith, c.if-in_all-task.false, c.in_all.ensures, read-in-all c.args.image.now c.read_into.new.cells _ (sym c.read_into.ensures.value ∙ c.in_ok-read_into.was) c.read_into.ensures.cells_after)) (read_table c.args.image.now c.read_into.new.cells _ (sym c.read_into.ensures.value ∙ c.in_ok-read_into.was) c.read_into.ensures.cells_after) refl
