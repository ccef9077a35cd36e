-- `lay::lay_front` meets its contract: three fields.
use mathlib.Core.Path.{◌∙◌}
use Rattle.row.specs.Row.{offset_cell, jitter_cell, blocking_cell}
use Rattle.writer.specs.Parts.{front_bits}
use Rattle.row.proofs.Readers.{body-cell}
use Rattle.writer.proofs.Laid.{three-laid}
use Rattle.writer.proofs.lay.lay_front.Goals as goal

pub returns : goal.returns
unfolding front_bits
returns c =
    let t = c.args.task in
    c.put-3.ensures
    ∙ rw (
      c.put-2.ensures,
      c.put.ensures,
      c.blocking-blocking.ensures,
      c.jitter-jitter.ensures,
      c.offset-offset.ensures,
      body-cell t.row.now t.number offset_cell t.number_bound,
      body-cell t.row.now t.number jitter_cell t.number_bound,
      body-cell t.row.now t.number blocking_cell t.number_bound,
    )
    (three-laid c.args.buffer.now t.at 24 24 24 _ _ _)
