-- `width` meets its contract: at each turn n digits are counted, and w is what stands before them with the last of them.
use native.Mathlib.Omega.{arith}
use Rattle.text.proofs.Decimals.{counted_start, counted_step, counted_end}
use Rattle.text.proofs.write.width.Goals as goal

pub loop-w-init : goal.loop-w-init
loop-w-init c = counted_start _ (omega arith)

pub overflow_add-n : goal.overflow_add-n
overflow_add-n c = omega (arith, c.loop-w.invariant.left)

pub loop-w-preserved : goal.loop-w-preserved
loop-w-preserved c = counted_step _ _ _ c.loop-w.invariant (omega arith)

pub returns : goal.returns
returns c = counted_end _ _ _ c.loop-w.invariant (omega arith) (omega arith)
