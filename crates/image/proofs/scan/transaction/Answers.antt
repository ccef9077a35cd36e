-- `scan::transaction` meets its contract. The invariant: its head is sound, and nothing was found at its first j tasks.
use Rattle.std.proofs.Common.{rules, ◌≡◌}
use mathlib.Core.Path.{refl, sym, ◌∙◌}
use mathlib.Core.List.{List}
use Prim.Native.Nat.{ℕ}
use native.Mathlib.Omega.{arith}
use Rattle.refusals.specs.Answer.{Answer, accepted, first_of}
use Rattle.refusals.proofs.Findings.{joining, passes, fails}
use Rattle.format.specs.Places.{task_at}
use Rattle.format.specs.Fault.{head_fault, task_fault, transaction_fault}
use Rattle.format.proofs.Faults.{transaction-parts}
use Rattle.format.proofs.Sound.{whole-head}
use Rattle.row.specs.declared.kinds.Transaction.{Transaction}
use Rattle.image.specs.Head.{head_at}
use Rattle.image.proofs.scan.transaction.Goals.{then-not-whole+in_ok-head_fault, else-not-whole+else-not-is_head}
use Rattle.image.proofs.scan.transaction.Goals as goal

abbrev faults : List ℕ → (at m : ℕ) → ℕ → Answer
faults image at m j = task_fault image m (task_at at m j)

-- behind a sound head the answer is that of the tasks
behind :
    (image : List ℕ) (before at : ℕ) {head : Transaction} {a : Answer}
    → head ≡ head_at image at
    → head_fault image before at ≡ accepted
    → first_of head.tasks (faults image at head.modes) ≡ a
    → transaction_fault image before at ≡ a
unfolding joining
behind image before at said sound all = rw (transaction-parts image before at, sound) (rw said at all)

pub returns-in_err-head_fault : goal.returns-in_err-head_fault
unfolding joining
returns-in_err-head_fault c =
    let parts = transaction-parts c.args.t.image.now c.args.before c.args.t.at in
    search rules

pub loop-j-init : goal.loop-j-init
unfolding joining
loop-j-init c =
    let t = c.args.t in
    elim c.if-not-whole.branch [
      | then-not-whole+in_ok-head_fault w ↦ (sym w.head_fault.ensures ∙ w.in_ok-head_fault.was, refl)
      | else-not-whole+else-not-is_head w ↦ (
        whole-head t.image.now c.args.before t.at (sym c.inside-whole.ensures ∙ w.if-not-whole.false)
            (sym (rw (t.head_value, c.requires) at w.is_head.ensures) ∙ w.if-not-is_head.false),
        refl,
      )
    ]

pub returns-in_err-task : goal.returns-in_err-task
returns-in_err-task c =
    let t = c.args.t in
    let task = rw (c.task.ensures.image_value, c.task.ensures.modes_value, c.task.ensures.at_value) at c.task-in-loop-j.ensures in
    let all = fails (faults t.image.now t.at t.head.modes) t.head.tasks c.loop-j.j _ c.loop-j-test.true c.loop-j.invariant.1 (sym task ∙ c.in_err-task.was) in
    let found = behind t.image.now c.args.before t.at t.head_value c.loop-j.invariant.0 all in
    search rules

pub loop-j-preserved : goal.loop-j-preserved
loop-j-preserved c =
    let t = c.args.t in
    let task = rw (c.task.ensures.image_value, c.task.ensures.modes_value, c.task.ensures.at_value) at c.task-in-loop-j.ensures in
    (c.loop-j.invariant.0, passes (faults t.image.now t.at t.head.modes) c.loop-j.j c.loop-j.invariant.1 (sym task ∙ c.in_ok-task.was))

pub returns : goal.returns
returns c =
    let t = c.args.t in
    let all : c.loop-j.j ≡ t.head.tasks = omega arith in
    sym (behind t.image.now c.args.before t.at t.head_value c.loop-j.invariant.0 (rw all at c.loop-j.invariant.1))
