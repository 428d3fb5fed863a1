-- `mark_starts` meets its contract: at each turn the vertices that so many edges leave are marked.
use Rattle.product.proofs.Writing.{MarkingStarts}
use Rattle.product.proofs.build.mark_starts.Given as goal

abbrev pub invariant-loop-edge : goal.invariant-loop-edge
invariant-loop-edge l = MarkingStarts l.states l.cells l.edges l.initial.marks l.marks l.edge-index
