-- `fill::time` meets its contract, a return for each outcome of the test.
use mathlib.Core.Path.{sym, ◌∙◌}
use native.Mathlib.Omega.{arith}
use Rattle.std.proofs.lemmas.List.{get_or_past}
use Rattle.table.specs.Lists.{list_of}
use Rattle.table.proofs.Lists.{length-list_of, get_or-list_of}
use Rattle.format.specs.Said.{time_in}
use Rattle.image.proofs.fill.time.Goals as goal

pub returns-then-m-task : goal.returns-then-m-task
returns-then-m-task c =
    let t = c.args.task in
    c.time.ensures ∙ sym (get_or-list_of t.modes (time_in t.image.now t.at) c.args.m 0 (omega arith))

pub returns-else-m-task : goal.returns-else-m-task
returns-else-m-task c =
    let t = c.args.task in
    sym (get_or_past (list_of t.modes (time_in t.image.now t.at)) c.args.m 0 (rw length-list_of c.if-m-task.false))
