-- `put_shares` stores the shares of the subject's transaction, place by place. The invariant: the groups of the places before j are laid.
use Rattle.std.proofs.Common.{◌≡◌, ◌∙◌, ℕ, List, ◌<◌, arith}
use mathlib.Core.Path.{ap₂}
use Rattle.row.specs.Row.{table_of}
use Rattle.table.specs.Table.{tasks}
use Rattle.table.specs.Limits.{tasks_most}
use Rattle.table.proofs.Ranges.{tasks-few}
use Rattle.account.specs.declared.Share.{Share}
use Rattle.account.specs.Account.{shares_cell, share_cells, stored}
use Rattle.account.proofs.Laid.{laid_none, laid_next}
use Rattle.answers.proofs.accounts.put_shares.Goals as goal

pub loop-j-init : goal.loop-j-init
loop-j-init c = laid_none shares_cell _ c.args.cells.now

pub loop-j-preserved : goal.loop-j-preserved
loop-j-preserved c =
    let there : c.loop-j.j < tasks (table_of c.args.work.now) c.args.s.u = omega (arith, c.loop-j-test.true, c.split_of-x.ensures.is_split.count) in
    c.put.ensures
    ∙ ap₂ (λ (r : Share) (cells : List ℕ). stored shares_cell tasks_most c.loop-j.j (share_cells r) cells) c.share.ensures c.loop-j.invariant
    ∙ laid_next shares_cell _ c.args.cells.now tasks_most c.loop-j.j
    (omega (arith, there, tasks-few c.requires.lent.table.kept c.requires.subject.chosen.is_task.owner))

pub returns : goal.returns
returns c =
    let all : c.loop-j.j ≡ tasks (table_of c.args.work.now) c.args.s.u = omega (arith, c.loop-j-test.false, c.loop-j.auto.j-end, c.split_of-x.ensures.is_split.count) in
    rw (← all, ← (c.split_of-x.ensures.at ∙ c.from.ensures)) c.loop-j.invariant
