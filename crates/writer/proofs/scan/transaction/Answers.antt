-- `scan::transaction` meets its contract. The invariant: its head is sound, and nothing was found at its first j tasks.
use Rattle.std.proofs.Common.{rules, ◌≡◌}
use mathlib.Core.Path.{refl, sym, ap, ◌∙◌}
use native.Mathlib.Omega.{arith}
use Rattle.refusals.proofs.Findings.{joining, passes, fails}
use Rattle.writer.proofs.Scanned.{small, transaction-parts}
use Rattle.writer.proofs.Behind.{tasks_faults, behind-head}
use Rattle.writer.proofs.scan.transaction.Goals as goal

pub returns-in_err-head : goal.returns-in_err-head
unfolding joining
returns-in_err-head c =
    let t = c.args.t in
    let parts = transaction-parts t.row.now t.number t.before t.at in
    search rules

pub tasks-tasks-requires : goal.tasks-tasks-requires
tasks-tasks-requires c =
    let few = small _ _ _ _ (sym c.head.ensures ∙ c.in_ok-head.was) in
    record { modes_cell_bound = few.modes; has_cell_bound = few.tasks; in_all_bound = few.in_all }

pub loop-j-init : goal.loop-j-init
unfolding joining
loop-j-init c = refl

pub returns-in_err-task : goal.returns-in_err-task
returns-in_err-task c =
    let t = c.tasks-tasks.result in
    let is = c.tasks-tasks.ensures in
    let task = rw (c.task.ensures.row_value, c.task.ensures.number_value, c.task.ensures.modes_value, c.task.ensures.at_value) at c.task-in-loop-j.ensures in
    let all = fails (tasks_faults t) t.count c.loop-j.j _ c.loop-j-test.true c.loop-j.invariant (sym task ∙ c.in_err-task.was) in
    let found = behind-head _ _ _ t (ap (λ b. b.now) is.row_value) is.first_value is.count_value is.modes_value is.at_value (sym c.head.ensures ∙ c.in_ok-head.was) all in
    search rules

pub loop-j-preserved : goal.loop-j-preserved
loop-j-preserved c =
    let task = rw (c.task.ensures.row_value, c.task.ensures.number_value, c.task.ensures.modes_value, c.task.ensures.at_value) at c.task-in-loop-j.ensures in
    passes (tasks_faults c.tasks-tasks.result) c.loop-j.j c.loop-j.invariant (sym task ∙ c.in_ok-task.was)

pub returns : goal.returns
returns c =
    let t = c.tasks-tasks.result in
    let is = c.tasks-tasks.ensures in
    let all : c.loop-j.j ≡ t.count = omega arith in
    sym (behind-head _ _ _ t (ap (λ b. b.now) is.row_value) is.first_value is.count_value is.modes_value is.at_value (sym c.head.ensures ∙ c.in_ok-head.was) (rw all at c.loop-j.invariant))
