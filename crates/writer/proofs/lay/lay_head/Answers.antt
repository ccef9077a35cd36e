-- `lay::lay_head` meets its contract: three fields.
use mathlib.Core.Path.{◌∙◌}
use Rattle.row.specs.Row.{period_cell, modes_cell, has_cell}
use Rattle.writer.specs.Parts.{head_bits}
use Rattle.row.proofs.Readers.{head-cell}
use Rattle.writer.proofs.Laid.{three-laid}
use Rattle.writer.proofs.lay.lay_head.Goals as goal

pub returns : goal.returns
unfolding head_bits
returns c =
    let t = c.args.t in
    c.put-3.ensures
    ∙ rw (
      c.tasks.ensures,
      c.put-2.ensures,
      c.modes.ensures,
      c.put.ensures,
      c.period.ensures,
      head-cell t.row.now t.number period_cell t.number_bound,
      head-cell t.row.now t.number modes_cell t.number_bound,
      head-cell t.row.now t.number has_cell t.number_bound,
    )
    (three-laid c.args.buffer.now t.at 24 4 5 _ _ _)
