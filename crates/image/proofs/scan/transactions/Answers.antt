-- `scan::transactions` meets its contract. The invariant: `at` is where transaction u starts, `before` the tasks before it, and nothing was found
-- in the first u transactions.
use Rattle.std.proofs.Common.{rules, ◌≡◌, Err}
use mathlib.Core.Path.{refl, sym, ◌∙◌}
use mathlib.Core.List.{List}
use Prim.Native.Nat.{ℕ}
use native.Mathlib.Omega.{arith}
use lib.Dec.{lit<}
use Rattle.table.specs.Sum.{sum}
use Rattle.refusals.specs.Answer.{accepted, first_of}
use Rattle.refusals.proofs.Findings.{joining, passes, fails}
use Rattle.format.specs.Places.{start}
use Rattle.format.specs.Said.{count_in, tasks_before}
use Rattle.format.specs.Fault.{end_fault, body_fault}
use Rattle.format.proofs.Faults.{body-parts}
use Rattle.image.proofs.Walk.{next-small, next-tasks, next-place}
use Rattle.image.proofs.scan.transactions.Invariants.{faults}
use Rattle.image.proofs.scan.transactions.Goals as goal

found : (image : List ℕ) (f : Rattle.refusals.specs.declared.Fault.Fault) → first_of (count_in image) (faults image) ≡ Err f → body_fault image ≡ Err f
unfolding joining
found image f all = rw (body-parts image, all)

none : (image : List ℕ) → first_of (count_in image) (faults image) ≡ accepted → body_fault image ≡ end_fault image (start image (count_in image))
unfolding joining
none image all = rw (body-parts image, all)

pub loop-u-init : goal.loop-u-init
unfolding joining start tasks_before sum
loop-u-init c = (refl, refl, lit< tt, lit< tt, refl)

pub returns-in_err-transaction : goal.returns-in_err-transaction
returns-in_err-transaction c =
    let image = c.args.image.now in
    let here = rw (c.new-t.ensures.image_value, c.new-t.ensures.at_value, c.loop-u.invariant.0, c.loop-u.invariant.1) at c.transaction.ensures in
    let all = fails (faults image) (count_in image) c.loop-u.u _ (omega (arith, c.loop-u-test.true, c.value-count.ensures)) c.loop-u.invariant.4 (sym here ∙ c.in_err-transaction.was) in
    let answer = found image _ all in
    search rules

pub loop-u-preserved : goal.loop-u-preserved
loop-u-preserved c =
    let image = c.args.image.now in
    let u = c.loop-u.u in
    let tasks = c.loop-u.invariant.0 in
    let place = c.loop-u.invariant.1 in
    let said = rw (c.new-t.ensures.image_value, c.new-t.ensures.at_value) at c.new-t.result.head_value in
    let ends = rw c.new-t.ensures.at_value at c.end-at.ensures in
    let small = next-small image u tasks place said (omega (arith, c.loop-u-test.true, c.value-count.ensures)) in
    let here = rw (c.new-t.ensures.image_value, c.new-t.ensures.at_value, tasks, place) at c.transaction.ensures in (
      next-tasks image u tasks place said,
      ends ∙ next-place image u tasks place said,
      small.0,
      rw ends small.1,
      passes (faults image) u c.loop-u.invariant.4 (sym here ∙ c.in_ok-transaction.was),
    )

pub returns : goal.returns
returns c =
    let image = c.args.image.now in
    let all : c.loop-u.u ≡ count_in image = omega (arith, c.value-count.ensures) in
    c.end.ensures ∙ rw (c.loop-u.invariant.1, all) (sym (none image (rw all at c.loop-u.invariant.4)))
