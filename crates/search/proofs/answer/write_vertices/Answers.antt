-- `write_vertices` meets its contract: at each turn the lines of v vertices are written.
use mathlib.Core.Path.{◌∙◌}
use native.Mathlib.Omega.{arith}
use mir.Facts.{to_z-of_z}
use mir.Syntax.{w32}
use mir.Val.{SFits}
use Rattle.search.proofs.Answers.{vertices_start, vertices_step, vertices_end}
use Rattle.search.proofs.answer.write_vertices.Goals as goal

pub loop-v-init : goal.loop-v-init
loop-v-init c = vertices_start _ _ _

pub loop-v-preserved : goal.loop-v-preserved
loop-v-preserved c =
    let loaded : SFits w32 c.load.result = record { sfits = c.load.type_inv } in
    vertices_step c.loop-v.invariant c.loop-v-test.true (to_z-of_z loaded ∙ c.load.ensures) c.write_vertex.ensures.same c.write_vertex.ensures.vertex

pub returns-clause-same : goal.returns-clause-same
returns-clause-same c = c.loop-v.invariant.same

pub returns-clause-vertices : goal.returns-clause-vertices
returns-clause-vertices c = vertices_end c.loop-v.invariant (omega arith)
