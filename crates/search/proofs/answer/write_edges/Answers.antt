-- `write_edges` meets its contract: at each turn i lines are written.
use native.Mathlib.Omega.{arith}
use Rattle.search.proofs.Answers.{edges_start, edges_step, edges_end}
use Rattle.search.proofs.answer.write_edges.Goals as goal

pub loop-i-init : goal.loop-i-init
loop-i-init c = edges_start _ _ _ _

pub loop-i-preserved : goal.loop-i-preserved
loop-i-preserved c = edges_step c.loop-i.invariant c.loop-i-test.true c.load_below-e.ensures.0 c.field.ensures.same c.field.ensures.chain

pub returns-clause-same : goal.returns-clause-same
returns-clause-same c = c.loop-i.invariant.same

pub returns-clause-edges : goal.returns-clause-edges
returns-clause-edges c = edges_end c.loop-i.invariant (omega arith)
