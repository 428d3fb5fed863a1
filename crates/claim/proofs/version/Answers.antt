-- `version` meets its contract: a law for each return. Assumes nothing.
use mathlib.Core.Path.{sym, ◌∙◌}
use Rattle.claim.proofs.OpeningCode.{version_is, version_other, version_none}
use borrow.Enum.Refused.{opened}
use Rattle.claim.proofs.version.Goals as goal

pub returns-then-word : goal.returns-then-word
returns-then-word c =
    let a = c.args in
    version_is a.text.now a.limit a.at c.token_at-token.ensures _ _ c.in-Name.is (sym c.word.ensures ∙ c.if-word.true)

pub returns-else-word : goal.returns-else-word
returns-else-word c =
    let a = c.args in
    version_other a.text.now a.limit a.at c.token_at-token.ensures _ _ c.in-Name.is (sym c.word.ensures ∙ c.if-word.false)

pub returns-in_default : goal.returns-in_default
returns-in_default c =
    let a = c.args in
    version_none a.text.now a.limit a.at c.token_at-token.ensures (opened c.in_default.in_default-own.keys2) _ c.fault.ensures
