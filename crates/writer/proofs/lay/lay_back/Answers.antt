-- `lay::lay_back` meets its contract: two fields.
use mathlib.Core.Path.{◌≡◌, ◌∙◌}
use Prim.Native.Nat.{◌+◌}
use native.Mathlib.Omega.{arith}
use Rattle.row.specs.Row.{deadline_cell, priority_cell}
use Rattle.writer.specs.Parts.{back_bits}
use Rattle.row.proofs.Readers.{body-cell}
use Rattle.writer.proofs.Laid.{two-laid}
use Rattle.writer.proofs.lay.lay_back.Goals as goal

pub returns : goal.returns
unfolding back_bits
returns c =
    let t = c.args.task in
    let place : t.at + 98 ≡ t.at + 72 + 26 = omega arith in
    c.put-2.ensures
    ∙ rw (
      c.priority.ensures,
      c.put.ensures,
      c.deadline.ensures,
      body-cell t.row.now t.number deadline_cell t.number_bound,
      body-cell t.row.now t.number priority_cell t.number_bound,
      place,
    )
    (two-laid c.args.buffer.now (t.at + 72) 26 8 _ _)
