-- `mark_starts` meets its contract: at each turn the vertices that so many edges leave are marked.
use native.Mathlib.Omega.{arith}
use Rattle.product.proofs.Writing.{marks_start, marks_next, marks_last}
use Rattle.product.proofs.build.mark_starts.Goals as goal

pub loop-edge-init : goal.loop-edge-init
loop-edge-init c = marks_start _ _ _ _ c.requires.fresh

pub loop-edge-preserved : goal.loop-edge-preserved
loop-edge-preserved c = rw c.put.ensures (marks_next c.loop-edge.invariant c.loop-edge-test.true _)

pub returns : goal.returns
returns c = marks_last c.loop-edge.invariant (omega arith) c.requires.fresh
