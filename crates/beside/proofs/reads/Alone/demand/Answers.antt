-- The jobs of a major frame, and their time.
use native.Mathlib.Omega.{arith}
use Rattle.table.proofs.Ranges.{kept-period}
use Rattle.beside.proofs.reads.Alone.demand.Goals as goal

pub nonzero_div-frame : goal.nonzero_div-frame
nonzero_div-frame c =
    omega (arith, kept-period c.args.self.now.single_row.table.kept c.args.self.now.owner, c.period.ensures)

pub returns : goal.returns
returns c =
    let p = c in
    rw (c.time_of.ensures, p.frame.ensures, p.period.ensures)
