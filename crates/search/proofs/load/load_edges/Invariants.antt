-- `search::load::load_edges`: each entry of the tables puts its edge into the cells, and the vertices that are left get the number of edges as their first edge.
use Rattle.search.proofs.Loads.{PairsLaid}
use Rattle.search.proofs.load.load_edges.Given as goal

abbrev pub invariant-loop-e : goal.invariant-loop-e
invariant-loop-e l = PairsLaid l.froms l.tos l.n l.e l.next l.initial.work l.work
