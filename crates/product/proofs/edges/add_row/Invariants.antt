-- `add_row` meets its contract: at each turn so many masks are read.
use Rattle.product.proofs.EdgeTables.{RowRead}
use Rattle.product.proofs.edges.add_row.Given as goal

abbrev pub invariant-loop-mask : goal.invariant-loop-mask
invariant-loop-mask l = RowRead l.row l.from l.states l.mask-index l.to l.initial.edges l.edges
