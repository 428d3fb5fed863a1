-- `labels::closed` meets its contract. Assumes nothing.
use mathlib.Core.Path.{sym, ◌∙◌}
use native.Mathlib.Omega.{arith}
use Rattle.claim.proofs.Variants.{handed_on}
use Rattle.claim.proofs.Seeing.{closed_is, closed_not}
use Rattle.claim.proofs.Signs.{byte_inside, byte_seen, byte_unseen}
use Rattle.claim.proofs.labels.closed.Goals as goal

pub returns-in_err-w : goal.returns-in_err-w
returns-in_err-w c = rw (c.in_err-w.was) (handed_on c.from_residual.ensures)

pub overflow_add-e : goal.overflow_add-e
overflow_add-e c = omega (arith, (byte_inside _ _ _ (byte_seen _ c.byte_at.ensures (sym c.eq.ensures ∙ c.if-eq.true))).0)

pub returns-then-eq : goal.returns-then-eq
returns-then-eq c = rw (c.in_ok-w.was) (closed_is _ _ _ _ c.requires (byte_seen _ c.byte_at.ensures (sym c.eq.ensures ∙ c.if-eq.true)) c.past_blanks.ensures)

pub returns : goal.returns
returns c = rw (c.in_ok-w.was) (closed_not _ _ c.in_ok-w.w _ (byte_unseen _ c.byte_at.ensures (sym c.eq.ensures ∙ c.if-eq.false)) c.claim_token.ensures _ c.fault.ensures)
