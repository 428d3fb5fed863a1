-- `part` meets its contract: the bytes between both places stand in the text.
use mathlib.Core.Path.{refl}
use native.Mathlib.Omega.{arith}
use Rattle.product.proofs.StepRows.{cut}
use Rattle.product.proofs.names.part.Goals as goal

pub returns : goal.returns
returns c = record { bytes = cut _ _ _ _ _ c.min-start.ensures c.min.ensures; block = refl; offset = omega (arith, c.min-start.ensures) }
