-- `add_mask` meets its contract: at each turn t bits are read.
use Rattle.product.proofs.EdgeTables.{MaskRead}
use Rattle.product.proofs.edges.add_mask.Given as goal

abbrev pub invariant-loop-t : goal.invariant-loop-t
invariant-loop-t l = MaskRead l.mask l.from l.to l.states l.t l.initial.edges l.edges
