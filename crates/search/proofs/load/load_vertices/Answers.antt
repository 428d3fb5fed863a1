-- `search::load::load_vertices`: each entry of the tables puts its vertex's mark and owner into the cells.
use Rattle.search.proofs.Loads.{rows_end, rows_step}
use Rattle.search.proofs.load.load_vertices.Goals as goal

pub loop-v-preserved : goal.loop-v-preserved
loop-v-preserved c =
    let s = c.requires in
    rw (c.store_number-in-loop-v.ensures, c.store_number.ensures) (rows_step c.loop-v.invariant s c.loop-v-test.true)

pub returns : goal.returns
returns c = rows_end c.loop-v.invariant c.requires c.loop-v-test.false
