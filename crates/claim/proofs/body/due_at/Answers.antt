-- `body::due_at` meets its contract. Assumes nothing.
use mathlib.Core.Path.{sym, ◌∙◌}
use Rattle.claim.proofs.LineCode.{line_due, line_other, line_many, end_early, end_due, end_not_due, due_not}
use borrow.Enum.Refused.{opened}
use Rattle.claim.proofs.Variants.{handed_on}
use Rattle.claim.proofs.body.due_at.Goals as goal

pub returns-then-word : goal.returns-then-word
returns-then-word c = line_due c.claim_token-token.ensures _ _ _ _ c.in-Header.is (sym c.word.ensures ∙ c.if-word.true) c.if-lines-states.true

pub returns-then-lines-states-2 : goal.returns-then-lines-states-2
returns-then-lines-states-2 c = end_early c.claim_token-token.ensures _ _ c.in-End.is c.if-lines-states-2.true

pub returns-else-word : goal.returns-else-word
returns-else-word c = line_other c.claim_token-token.ensures _ _ _ _ c.in-Header.is (sym c.word.ensures ∙ c.if-word.false)

pub returns-else-lines-states : goal.returns-else-lines-states
returns-else-lines-states c = line_many c.claim_token-token.ensures _ _ _ _ c.in-Header.is c.if-lines-states.false

pub returns-in_err-end_on-in-End : goal.returns-in_err-end_on-in-End
returns-in_err-end_on-in-End c = rw (handed_on c.from_residual.ensures) (end_not_due c.claim_token-token.ensures _ _ c.in-End.is c.requires c.if-lines-states-2.false _ c.in_err-end_on-in-End.ensures)

pub returns-in_ok-end_on-in-End : goal.returns-in_ok-end_on-in-End
returns-in_ok-end_on-in-End c = end_due c.claim_token-token.ensures _ _ c.in-End.is c.requires c.if-lines-states-2.false c.in_ok-end_on-in-End.ensures

pub returns-in_default : goal.returns-in_default
returns-in_default c = due_not c.claim_token-token.ensures _ _ (opened c.in_default.in_default-own.keys3) _ c.fault.ensures
