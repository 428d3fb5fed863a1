-- `write_vertices` meets its contract: at each turn the lines from v on are left.
use Rattle.product.proofs.CaseLines.{VerticesLeft}
use Rattle.product.proofs.case.write_vertices.Given as goal

abbrev pub invariant-loop-v : goal.invariant-loop-v
invariant-loop-v l = VerticesLeft l.marks l.owners l.v l.initial.page l.page
