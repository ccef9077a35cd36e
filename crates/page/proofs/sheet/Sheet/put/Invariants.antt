use Rattle.std.specs.Prelude.{IsTrue}
use Rattle.page.specs.Handle.{whole}
use Rattle.page.proofs.sheet.Sheet.put.Given as goal

abbrev pub invariant-loop-b : goal.invariant-loop-b
invariant-loop-b l = IsTrue (whole l.fn.self.out)
