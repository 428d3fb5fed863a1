-- `header::inf_on` meets its contract. Assumes nothing.
use mathlib.Core.Path.{sym, ◌∙◌}
use Rattle.claim.proofs.HeaderCode.{opens_on, opens_not, inf_is, inf_other, inf_bracket, inf_not}
use Rattle.std.specs.Prelude.{Err}
use Rattle.claim.proofs.Variants.{handed_on}
use borrow.Enum.Refused.{opened}
use Rattle.claim.proofs.header.inf_on.Goals as goal

pub returns-in_err-sign_at-in-Name : goal.returns-in_err-sign_at-in-Name
returns-in_err-sign_at-in-Name c = rw (handed_on c.from_residual.ensures) (inf_is c.claim_token-token.ensures _ _ c.in-Name.is (sym c.word.ensures ∙ c.if-word.true) (Err _) (opens_not _ _ _ c.in_err-sign_at-in-Name.ensures))

pub returns-then-word : goal.returns-then-word
returns-then-word c = inf_is c.claim_token-token.ensures _ _ c.in-Name.is (sym c.word.ensures ∙ c.if-word.true) _ (opens_on _ _ _ c.in_ok-sign_at-in-Name.ensures _ c.set_on.ensures)

pub returns-then-is_symbol : goal.returns-then-is_symbol
returns-then-is_symbol c = inf_bracket c.claim_token-token.ensures (sym c.is_symbol.ensures ∙ c.if-is_symbol.true)

pub returns-else-word : goal.returns-else-word
returns-else-word c = inf_other c.claim_token-token.ensures _ _ c.in-Name.is (sym c.word.ensures ∙ c.if-word.false)

pub returns-else-is_symbol : goal.returns-else-is_symbol
returns-else-is_symbol c = inf_not c.claim_token-token.ensures (opened c.in_default.in_default-own.keys2) (sym c.is_symbol.ensures ∙ c.if-is_symbol.false) _ c.fault.ensures
