-- `tokens::name_byte` meets its contract. Assumes nothing.
use mathlib.Core.Path.{refl, sym, ◌∙◌}
use Rattle.text.specs.Numbers.{is_digit}
use Rattle.model.specs.ClaimTokens.{is_name_byte}
use Rattle.claim.proofs.tokens.name_byte.Goals as goal

pub returns-then-letter : goal.returns-then-letter
unfolding is_name_byte is_digit
returns-then-letter c = c.if-letter.true ∙ sym (rw (sym c.letter.ensures ∙ c.if-letter.true) refl)

pub returns-else-letter : goal.returns-else-letter
unfolding is_name_byte is_digit
returns-else-letter c = sym (rw (sym c.letter.ensures ∙ c.if-letter.false, c.is_ascii_digit.ensures.value))
