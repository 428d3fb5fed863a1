-- `find_edges` meets its contract: at each turn the edges that leave the vertices below v are found.
use native.Mathlib.Omega.{arith}
use Rattle.std.proofs.lemmas.Result.{err_from_is_err_and}
use Rattle.product.proofs.EdgeTables.{vertices_first, vertices_next, vertices_last, vertices_many}
use Rattle.product.proofs.edges.Product.find_edges.Goals as goal

pub loop-v-init : goal.loop-v-init
loop-v-init c = rw c.requires (vertices_first _ _ _)

pub returns-in_err-add_vertex : goal.returns-in_err-add_vertex
returns-in_err-add_vertex c =
    let p = err_from_is_err_and c.from_residual.result c.from_residual.ensures.1 in
    rw (p.1, p.2) (vertices_many c.loop-v.invariant c.loop-v-test.true (c.in_err-add_vertex.ensures {u = tt}))

pub loop-v-preserved : goal.loop-v-preserved
loop-v-preserved c = vertices_next c.loop-v.invariant (c.in_ok-add_vertex.ensures {u = tt})

pub returns : goal.returns
returns c = vertices_last c.loop-v.invariant (omega arith)
