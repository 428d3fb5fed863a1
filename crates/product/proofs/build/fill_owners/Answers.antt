-- `fill_owners` meets its contract: at each turn the vertices below v are done.
use native.Mathlib.Omega.{arith}
use Rattle.product.proofs.Writing.{owners_start, owners_next}
use Rattle.product.proofs.build.fill_owners.Goals as goal

pub loop-v-init : goal.loop-v-init
loop-v-init c = owners_start _ _

pub loop-v-preserved : goal.loop-v-preserved
loop-v-preserved c = owners_next c.loop-v.invariant (omega arith)
