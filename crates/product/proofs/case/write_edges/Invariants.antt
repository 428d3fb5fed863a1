-- `write_edges` meets its contract: at each turn so many lines are written.
use Rattle.product.proofs.CaseLines.{EdgesLeft}
use Rattle.product.proofs.case.write_edges.Given as goal

abbrev pub invariant-loop-edge : goal.invariant-loop-edge
invariant-loop-edge l = EdgesLeft l.edges l.edge-index l.initial.page l.page
