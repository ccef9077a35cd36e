-- `scan::fits` meets its contract: a number is below a power of two where nothing is left of it above.
use Rattle.writer.proofs.Scanned.{none_above}
use Rattle.writer.proofs.scan.fits.Goals as goal

pub returns : goal.returns
returns c = rw (c.check.ensures, c.above.ensures, none_above c.args.number c.args.width)
