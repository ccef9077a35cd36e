-- `fill::fill` meets its contract: the transactions with their tasks, and the header last.
use Rattle.image.specs.Fill.{filled_over}
use Rattle.image.proofs.fill.fill.Goals as goal

pub returns : goal.returns
unfolding filled_over
returns c = rw (c.put_transactions-all.ensures.cells_after, c.put_transactions-all.ensures.value, c.value-count.ensures, c.value-frame.ensures, c.value-edition.ensures)
