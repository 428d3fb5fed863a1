-- `find_edges` meets its contract: at each turn the edges that leave the vertices below v are found.
use Rattle.product.proofs.EdgeTables.{VerticesDone}
use Rattle.product.proofs.edges.Product.find_edges.Given as goal

abbrev pub invariant-loop-v : goal.invariant-loop-v
invariant-loop-v l = VerticesDone l.self.sizes l.v l.self.follow.now l.self.cells.now l.edges
