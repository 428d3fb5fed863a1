-- `write_vertices` meets its contract: at each turn the lines from v on are left.
use mathlib.Core.Path.{◌∙◌}
use native.Mathlib.Omega.{arith}
use Rattle.product.proofs.CaseLines.{vertices_step, vertices_end}
use Rattle.product.proofs.case.write_vertices.Goals as goal

pub loop-v-preserved : goal.loop-v-preserved
loop-v-preserved c =
    vertices_step c.loop-v.invariant c.loop-v-test.true c.requires.0 c.field.ensures.chain c.field-in-loop-v.ensures.chain c.field-in-loop-v-2.ensures.chain
    (c.field-in-loop-v-2.ensures.same ∙ c.field-in-loop-v.ensures.same ∙ c.field.ensures.same)

pub returns-clause-lines : goal.returns-clause-lines
returns-clause-lines c = vertices_end c.loop-v.invariant (omega arith)
