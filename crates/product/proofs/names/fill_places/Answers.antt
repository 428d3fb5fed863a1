-- `fill_places` meets its contract: at each turn so many places are done.
use native.Mathlib.Omega.{arith}
use Rattle.product.proofs.StepRows.{placing_start, placing_next, placing_end}
use Rattle.product.proofs.names.fill_places.Goals as goal

pub loop-place-init : goal.loop-place-init
loop-place-init c = placing_start _ _ c.past_head-at.ensures

pub loop-place-preserved : goal.loop-place-preserved
loop-place-preserved c = placing_next c.loop-place.invariant (omega arith) c.next_line-at.ensures

pub returns : goal.returns
returns c = placing_end c.loop-place.invariant (omega arith)
