-- `body::add_values` meets its contract. Assumes nothing.
use native.Mathlib.Omega.{arith}
use Rattle.claim.proofs.MoveCode.{values_gathered}
use Rattle.claim.proofs.body.add_values.Goals as goal

pub returns : goal.returns
returns c = values_gathered _ _ (omega arith) _ _ _ c.bitor.ensures
