-- `search::load::load_case`: the vertices, then the edges, which leave the vertices' cells.
use Rattle.search.proofs.Loads.{both_loaded}
use Rattle.search.proofs.load.load_case.Goals as goal

pub returns : goal.returns
returns c =
    let s = c.requires in
    both_loaded s.rows c.load_vertices-count.ensures c.load_edges.ensures
