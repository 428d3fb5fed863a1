-- `fill_row` meets its contract: at each turn f combinations are done.
use native.Mathlib.Omega.{arith}
use Rattle.product.proofs.EdgeTables.{filling_start, filling_step, filling_end}
use Rattle.product.proofs.edges.fill_row.Goals as goal

pub loop-f-init : goal.loop-f-init
loop-f-init c = filling_start c.requires

pub loop-f-preserved : goal.loop-f-preserved
loop-f-preserved c = filling_step c.loop-f.invariant c.loop-f-test.true (c.requires.leads _ c.loop-f-test.true)

pub returns : goal.returns
returns c = filling_end c.loop-f.invariant (omega arith)
