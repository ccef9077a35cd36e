use Rattle.std.specs.Prelude.{IsTrue}
use Rattle.page.specs.Handle.{whole}
use Rattle.page.proofs.sheet.Sheet.escaped.Given as goal

abbrev pub invariant-loop-chunk : goal.invariant-loop-chunk
invariant-loop-chunk l = IsTrue (whole l.fn.self.out) × IsTrue (whole l.self.out)

abbrev pub invariant-loop-c : goal.invariant-loop-c
invariant-loop-c l = IsTrue (whole l.fn.self.out) × IsTrue (whole l.self.out)

abbrev pub invariant-loop : goal.invariant-loop
invariant-loop l = IsTrue (whole l.fn.self.out) × IsTrue (whole l.self.out)
