-- `checker::listing::edge_length`: by the mark.
use Rattle.checker.proofs.Signs.{length_level, length_down}
use Rattle.checker.proofs.listing.edge_length.Goals as goal

pub returns-then-mark-eq0 : goal.returns-then-mark-eq0
returns-then-mark-eq0 c = length_level _ c.if-mark-eq0.true

pub returns : goal.returns
returns c = length_down _ c.if-mark-eq0.false
