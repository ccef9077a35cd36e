-- A full load has no completion, and any other is searched.
use Rattle.std.proofs.Common.{arith}
use Rattle.jitter.proofs.Line.{full-never}
use Rattle.beside.specs.Search.{Finds}
use Rattle.beside.proofs.completion.search.Goals as goal

pub returns-then-from-load : goal.returns-then-from-load
returns-then-from-load c =
    let x = c.args.task in
    let r = x.single_row in
    Finds.nothing (full-never r.table.kept r.single x.owner (omega (arith, c.if-from-load.true, c.from.ensures, c.frame.ensures, c.load.ensures)))
