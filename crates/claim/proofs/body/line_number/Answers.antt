-- `body::line_number` meets its contract. Assumes nothing.
use mathlib.Core.Path.{sym, ◌∙◌}
use Rattle.claim.proofs.LineCode.{state_is, state_other, state_label, state_none}
use borrow.Enum.Refused.{opened}
use Rattle.claim.proofs.body.line_number.Goals as goal

pub returns-then-unlisted : goal.returns-then-unlisted
returns-then-unlisted c = state_is c.claim_token-token.ensures _ _ c.requires _ c.in-Number.is _ c.unlisted.ensures c.if-unlisted.true

pub returns-then-is_symbol : goal.returns-then-is_symbol
returns-then-is_symbol c = state_label c.claim_token-token.ensures _ _ (sym c.is_symbol.ensures ∙ c.if-is_symbol.true)

pub returns-else-unlisted : goal.returns-else-unlisted
returns-else-unlisted c = state_other c.claim_token-token.ensures _ _ c.requires _ c.in-Number.is _ c.unlisted.ensures c.if-unlisted.false

pub returns-else-is_symbol : goal.returns-else-is_symbol
returns-else-is_symbol c = state_none c.claim_token-token.ensures _ _ (opened c.in_default.in_default-own.keys2) (sym c.is_symbol.ensures ∙ c.if-is_symbol.false) _ c.fault.ensures
