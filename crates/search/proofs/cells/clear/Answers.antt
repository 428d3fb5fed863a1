-- `cells::clear` meets its contract. Assumes nothing.
use Rattle.std.proofs.Common.{rules}
use Rattle.model.specs.Entry.{zeros}
use Rattle.search.proofs.cells.clear.Goals as goal

pub returns : goal.returns
unfolding zeros
returns c = search rules
