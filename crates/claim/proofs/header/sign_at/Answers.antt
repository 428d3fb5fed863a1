-- `header::sign_at` meets its contract. Assumes nothing.
use mathlib.Core.Path.{sym, ◌∙◌}
use Rattle.claim.proofs.HeaderCode.{sign_passed, sign_missed}
use Rattle.claim.proofs.header.sign_at.Goals as goal

pub returns-then-is_symbol : goal.returns-then-is_symbol
returns-then-is_symbol c = sign_passed c.claim_token-token.ensures _ (sym c.is_symbol.ensures ∙ c.if-is_symbol.true)

pub returns : goal.returns
returns c = sign_missed c.claim_token-token.ensures _ (sym c.is_symbol.ensures ∙ c.if-is_symbol.false) _ c.fault.ensures
