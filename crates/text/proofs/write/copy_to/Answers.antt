-- `copy_to` meets its contract: at each turn i bytes are copied.
use native.Mathlib.Omega.{arith}
use Rattle.text.proofs.Writing.{copied_start, copied_step, copied_end}
use Rattle.text.proofs.write.copy_to.Goals as goal

pub loop-i-init : goal.loop-i-init
loop-i-init c = copied_start _ _ _ c.requires

pub loop-i-preserved : goal.loop-i-preserved
loop-i-preserved c = copied_step _ _ _ _ _ c.loop-i.invariant c.loop-i-test.true

pub returns : goal.returns
returns c = copied_end _ _ _ _ _ c.loop-i.invariant (omega arith)
