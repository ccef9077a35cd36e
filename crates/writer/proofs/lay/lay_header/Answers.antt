-- `lay::lay_header` meets its contract: three fields.
use mathlib.Core.Path.{◌∙◌}
use Rattle.writer.specs.Parts.{header_bits}
use Rattle.writer.proofs.Laid.{three-laid}
use Rattle.writer.proofs.lay.lay_header.Goals as goal

pub returns : goal.returns
unfolding header_bits
returns c =
    c.put-3.ensures
    ∙ rw (c.transactions.ensures, c.put-2.ensures, c.frame.ensures, c.put.ensures, c.edition.ensures)
    (three-laid c.args.buffer.now 0 4 24 6 _ _ _)
