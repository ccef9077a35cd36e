-- `write` meets its contract: nothing is put where the table or the room is refused, else its bits are.
use Rattle.std.proofs.Common.{rules, Err}
use mathlib.Core.Path.{◌≡◌, sym, ◌∙◌}
use Rattle.round.proofs.Accepted.{accepted-kept}
use Rattle.round.proofs.Row.{row-timed}
use Rattle.writer.specs.Write.{Writing}
use Rattle.writer.proofs.Outcome.{faulty, short, whole, row-length}
use Rattle.writer.proofs.write.Goals as goal

pub returns-in_err-first_fault : goal.returns-in_err-first_fault
returns-in_err-first_fault c =
    let is : ◌≡◌ {A = Writing} c.from_residual.result (Err c.in_err-first_fault.field-0.0) = search rules in
    rw is (faulty _ _ (sym c.first_fault.ensures ∙ c.in_err-first_fault.was))

pub size-bytes-requires : goal.size-bytes-requires
size-bytes-requires c = accepted-kept _ (sym c.first_fault.ensures ∙ c.in_ok-first_fault.was) (row-timed c.args.row.now)

pub returns-in_err-check : goal.returns-in_err-check
returns-in_err-check c =
    let is : ◌≡◌ {A = Writing} c.from_residual-in_err-check.result (Err c.in_err-check.field-0.0) = search rules in
    rw is
    (short _ _ (sym c.first_fault.ensures ∙ c.in_ok-first_fault.was) (c.size-bytes.ensures ∙ sym (row-length c.args.row.now)) (sym c.check.ensures ∙ c.in_err-check.was))

pub lay-requires : goal.lay-requires
lay-requires c = accepted-kept _ (sym c.first_fault.ensures ∙ c.in_ok-first_fault.was) (row-timed c.args.row.now)

pub returns : goal.returns
returns c =
    rw c.lay.ensures
    (whole _ _ (sym c.first_fault.ensures ∙ c.in_ok-first_fault.was) (c.size-bytes.ensures ∙ sym (row-length c.args.row.now)) (sym c.check.ensures ∙ c.in_ok-check.was))
