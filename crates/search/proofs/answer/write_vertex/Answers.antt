-- `write_vertex` meets its contract.
use mir.Facts.{to_z-of_z}
use Rattle.search.proofs.Answers.{vertex_some, vertex_none}
use Rattle.search.proofs.answer.write_vertex.Goals as goal

pub returns-then-distance-le0-clause-vertex : goal.returns-then-distance-le0-clause-vertex
returns-then-distance-le0-clause-vertex c =
    rw (to_z-of_z c.ranges.distance) at
    (vertex_some c.if-distance-le0.true c.field.ensures.chain c.signed.ensures.writes c.byte.ensures.writes)

pub returns-else-distance-le0-clause-vertex : goal.returns-else-distance-le0-clause-vertex
returns-else-distance-le0-clause-vertex c = vertex_none _ _ _ (rw (to_z-of_z c.ranges.distance) at c.if-distance-le0.false)
