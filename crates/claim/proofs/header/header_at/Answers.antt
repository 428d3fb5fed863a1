-- `header::header_at` meets its contract: the items so far give what is known of them. Assumes nothing.
use native.Mathlib.Omega.{arith}
use Rattle.claim.proofs.Variants.{handed_on}
use Rattle.claim.proofs.HeaderLoop.{items_begun, items_unknown, items_again, items_ahead, items_broken, items_ended}
use borrow.Enum.Refused.{opened}
use Rattle.claim.proofs.header.header_at.Goals as goal

pub loop-a-init : goal.loop-a-init
loop-a-init c = items_begun _ _

pub returns-in_default : goal.returns-in_default
returns-in_default c = items_ended c.loop-a.invariant c.claim_token-token.ensures (opened c.in_default.in_default-own.keys2) c.items_end.result c.items_end.ensures

pub returns-in_err-last : goal.returns-in_err-last
returns-in_err-last c = rw (handed_on c.from_residual.ensures) (items_unknown c.loop-a.invariant c.claim_token-token.ensures _ _ c.in-Header.is _ c.in_err-last.ensures)

pub returns-in_err-g : goal.returns-in_err-g
returns-in_err-g c = rw (handed_on c.from_residual-in_err-g.ensures) (items_broken c.loop-a.invariant c.claim_token-token.ensures _ _ c.in-Header.is _ c.in_ok-last.ensures _ c.in_err-g.ensures)

pub loop-a-smaller : goal.loop-a-smaller
loop-a-smaller c = let h = items_ahead c.loop-a.invariant c.claim_token-token.ensures _ _ c.in-Header.is _ c.in_ok-last.ensures _ _ c.in_ok-g.ensures in omega (arith, h.more, h.inside)

pub loop-a-preserved : goal.loop-a-preserved
loop-a-preserved c = items_again c.loop-a.invariant c.claim_token-token.ensures _ _ c.in-Header.is _ c.in_ok-last.ensures _ _ c.in_ok-g.ensures
