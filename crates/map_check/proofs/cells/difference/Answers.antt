use Rattle.map_check.proofs.CellNumbers.{difference_is}
use Rattle.map_check.proofs.cells.difference.Goals as goal

pub returns : goal.returns
returns c = difference_is c.args.to c.args.from c.ranges.to.fits c.ranges.from.fits
