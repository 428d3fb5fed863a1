-- `search::load::load_edges`: each entry of the tables puts its edge into the cells, and the vertices that are left get the number of edges as their first edge.
use Rattle.search.proofs.Loads.{pairs_end, pair_asks, pairs_step}
use Rattle.search.proofs.load.load_edges.Goals as goal

pub load_edge-next-requires : goal.load_edge-next-requires
load_edge-next-requires c =
    let s = c.requires in
    pair_asks c.loop-e.invariant s c.loop-e-test.true

pub loop-e-preserved : goal.loop-e-preserved
loop-e-preserved c =
    let s = c.requires in
    pairs_step c.loop-e.invariant s c.loop-e-test.true c.load_edge-next.ensures

pub returns : goal.returns
returns c =
    let s = c.requires in
    pairs_end c.loop-e.invariant s c.loop-e-test.false c.fill.ensures
