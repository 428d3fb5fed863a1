-- `header::set_on` meets its contract. Assumes nothing.
use mathlib.Core.Path.{sym, ◌∙◌}
use Rattle.claim.proofs.HeaderCode.{closes, set_is, set_other, set_negated, set_not}
use borrow.Enum.Refused.{opened}
use Rattle.claim.proofs.header.set_on.Goals as goal

pub returns-then-v-eq0 : goal.returns-then-v-eq0
returns-then-v-eq0 c = set_is c.claim_token-token.ensures _ c.in-Number.is c.if-v-eq0.true _ (closes _ _ _ c.sign_at.ensures)

pub returns-then-is_symbol : goal.returns-then-is_symbol
returns-then-is_symbol c = set_negated c.claim_token-token.ensures (sym c.is_symbol.ensures ∙ c.if-is_symbol.true)

pub returns-else-v-eq0 : goal.returns-else-v-eq0
returns-else-v-eq0 c = set_other c.claim_token-token.ensures _ c.in-Number.is c.if-v-eq0.false

pub returns-else-is_symbol : goal.returns-else-is_symbol
returns-else-is_symbol c = set_not c.claim_token-token.ensures (opened c.in_default.in_default-own.keys2) (sym c.is_symbol.ensures ∙ c.if-is_symbol.false) _ c.fault.ensures
