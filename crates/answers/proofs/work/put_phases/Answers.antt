-- `put_phases` meets its contract. The invariant: the candidates before k have their cells, and so have the first j places
-- of candidate number k; in front of them stands the table's row as it was.
use mathlib.Core.Path.{◌≡◌, ap, subst, ◌∙◌}
use Prim.Native.Nat.{ℕ}
use native.Mathlib.Omega.{arith}
use Rattle.table.specs.Table.{Table, tasks as tasks_in}
use Rattle.table.proofs.Ranges.{tasks-few}
use Rattle.row.specs.Row.{table_of}
use Rattle.analysis.specs.Charge.{phase_of, held_of}
use Rattle.answers.proofs.Filling.{same_row, PhasesTo, phases-none, phases-next, phases-all}
use Rattle.answers.proofs.work.put_phases.Goals as goal

pub loop-j-init : goal.loop-j-init
loop-j-init c =
    let x = c.task-x.result in
    phases-none c.requires.row_of_table.kept x.u x.a c.args.work.now c.args.k c.requires.phased

pub phase_of-phase-requires : goal.phase_of-phase-requires
phase_of-phase-requires c =
    let (row, e) = same_row c.requires.row_of_table c.loop-j.invariant.same in
    let is = c.task-x.ensures.chosen.is_task in
    record { row_of_table = row; task = rw e is; task_2 = rw e (record { owner = is.owner; place = omega (arith, c.tasks-count.ensures) }) }

pub held_of-held-requires : goal.held_of-held-requires
held_of-held-requires c =
    let (row, e) = same_row c.requires.row_of_table c.loop-j.invariant.same in
    let is = c.task-x.ensures.chosen.is_task in
    record { row_of_table = row; task = rw e is; task_2 = rw e (record { owner = is.owner; place = omega (arith, c.tasks-count.ensures) }) }

pub loop-j-preserved : goal.loop-j-preserved
loop-j-preserved c =
    let x = c.task-x.result in
    let kept = c.requires.row_of_table.kept in
    let few = tasks-few kept c.task-x.ensures.chosen.is_task.owner in
    let e = (same_row c.requires.row_of_table c.loop-j.invariant.same).1 in
    phases-next kept x.u x.a c.args.work.now c.args.k c.loop-j.j
    c.phase_of-phase.result
    c.held_of-held.result
    c.loop-j.work
    (omega (arith, kept.few_tasks))
    (omega arith)
    (c.loop-j.invariant.same.size ∙ c.requires.work_len)
    (c.phase_of-phase.ensures ∙ ap (λ (tab : Table). phase_of tab x.u x.a c.loop-j.j) e)
    (c.held_of-held.ensures ∙ ap (λ (tab : Table). held_of tab x.u x.a c.loop-j.j) e)
    c.loop-j.invariant

pub returns : goal.returns
returns c =
    let old = c.args.work.now in
    let t = c.task-x in
    let i = t.result.u in
    let all : c.loop-j.j ≡ tasks_in (table_of old) i = omega (arith, c.tasks-count.ensures) in record {
      phased_2 = phases-all c.requires.row_of_table.kept i t.result.a old c.args.k c.loop-j.work t.ensures.chosen.is_task t.ensures.numbered
          (subst (λ (n : ℕ). PhasesTo (table_of old) c.args.k i t.result.a n old c.loop-j.work) all c.loop-j.invariant);
      same_to = c.loop-j.invariant.same;
    }
