-- `opening` meets its contract: a law for each return. Assumes nothing.
use mathlib.Core.Path.{sym, ◌∙◌}
use Rattle.claim.proofs.OpeningCode.{opening_is, opening_other, opening_none}
use borrow.Enum.Refused.{opened}
use Rattle.claim.proofs.opening.Goals as goal

pub returns-then-word : goal.returns-then-word
returns-then-word c =
    let a = c.args in
    opening_is a.text.now a.limit c.token_at-token.ensures _ _ c.in-Header.is (sym c.word.ensures ∙ c.if-word.true) c.version.result c.version.ensures

pub returns-else-word : goal.returns-else-word
returns-else-word c =
    let a = c.args in
    opening_other a.text.now a.limit c.token_at-token.ensures _ _ c.in-Header.is (sym c.word.ensures ∙ c.if-word.false)

pub returns-in_default : goal.returns-in_default
returns-in_default c =
    let a = c.args in
    opening_none a.text.now a.limit c.token_at-token.ensures (opened c.in_default.in_default-own.keys2) _ c.fault.ensures
