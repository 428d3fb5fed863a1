-- `search::load::load_vertices`: each entry of the tables puts its vertex's mark and owner into the cells.
use Rattle.search.proofs.Loads.{RowsLaid}
use Rattle.search.proofs.load.load_vertices.Given as goal

abbrev pub invariant-loop-v : goal.invariant-loop-v
invariant-loop-v l = RowsLaid l.marks l.owners l.v l.count l.initial.work l.work
