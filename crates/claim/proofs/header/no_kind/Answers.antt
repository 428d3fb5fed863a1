-- `header::no_kind` meets its contract. Assumes nothing.
use mathlib.Core.Path.{sym, ◌∙◌}
use Rattle.model.specs.ClaimTokens.{is_capital}
use Rattle.claim.proofs.header.no_kind.Goals as goal

pub returns-then-is_ascii_uppercase : goal.returns-then-is_ascii_uppercase
unfolding is_capital
returns-then-is_ascii_uppercase c = sym (rw (sym c.is_ascii_uppercase.ensures.value ∙ c.if-is_ascii_uppercase.true))

pub returns-else-is_ascii_uppercase : goal.returns-else-is_ascii_uppercase
unfolding is_capital
returns-else-is_ascii_uppercase c = sym (rw (sym c.is_ascii_uppercase.ensures.value ∙ c.if-is_ascii_uppercase.false))
