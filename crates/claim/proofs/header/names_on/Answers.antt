-- `header::names_on` meets its contract: so many names are left. Assumes nothing.
use Prim.Native.Nat.{◌+◌, ◌-◌}
use native.Mathlib.Nat.{sub-zero}
use native.Mathlib.Omega.{arith}
use Rattle.claim.proofs.Variants.{handed_on}
use Rattle.claim.proofs.HeaderItems.{names_begun, names_again, names_torn, names_read}
use Rattle.claim.proofs.header.names_on.Goals as goal

pub loop-init : goal.loop-init
loop-init c = rw (sub-zero c.args.count) (names_begun _ _ _)

pub returns-in_err-here : goal.returns-in_err-here
returns-in_err-here c = rw (handed_on c.from_residual.ensures) (names_torn c.loop.invariant (c.args.count - (c.loop.counter + 1)) (omega arith) c.args.g _ c.in_err-here.ensures)

pub loop-preserved : goal.loop-preserved
loop-preserved c = names_again c.loop.invariant _ (omega arith) _ c.in_ok-here.ensures

pub returns : goal.returns
returns c = names_read c.loop.invariant (omega arith) c.args.g c.requires.named_value c.requires.count_le_most_propositions
