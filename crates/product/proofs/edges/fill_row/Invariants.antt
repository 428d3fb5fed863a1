-- `fill_row` meets its contract: at each turn f combinations are done.
use Rattle.product.proofs.EdgeTables.{Filling}
use Rattle.product.proofs.edges.fill_row.Given as goal

abbrev pub invariant-loop-f : goal.invariant-loop-f
invariant-loop-f l = Filling l.entries l.masks l.f l.row
