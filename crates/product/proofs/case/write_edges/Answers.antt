-- `write_edges` meets its contract: at each turn so many lines are written.
use mathlib.Core.Path.{◌∙◌}
use native.Mathlib.Omega.{arith}
use Rattle.product.proofs.CaseLines.{edges_step, edges_end}
use Rattle.product.proofs.case.write_edges.Goals as goal

pub loop-edge-preserved : goal.loop-edge-preserved
loop-edge-preserved c =
    edges_step _ c.loop-edge.invariant c.loop-edge-test.true c.field.ensures.chain c.field-in-loop-edge.ensures.chain (c.field-in-loop-edge.ensures.same ∙ c.field.ensures.same)

pub returns-clause-lines : goal.returns-clause-lines
returns-clause-lines c = edges_end c.loop-edge.invariant (omega arith)
