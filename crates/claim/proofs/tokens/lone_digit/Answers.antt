-- `tokens::lone_digit` meets its contract. Assumes nothing.
use mathlib.Core.Path.{sym, ◌∙◌}
use native.Mathlib.Omega.{arith}
use Rattle.text.specs.Numbers.{is_digit}
use Rattle.claim.proofs.Lexing.{digit_low}
use Rattle.claim.proofs.Signs.{byte_inside, digit_alone}
use Rattle.claim.proofs.tokens.lone_digit.Goals as goal

pub overflow_add-at : goal.overflow_add-at
overflow_add-at c = omega (arith, (byte_inside _ _ _ (sym c.in_ok-b.ensures)).0)

pub overflow_sub-b : goal.overflow_sub-b
unfolding is_digit
overflow_sub-b c = digit_low _ (sym c.is_ascii_digit.ensures.value ∙ c.if-not-is_ascii_digit.false)

pub returns : goal.returns
unfolding is_digit
returns c = digit_alone _ _ _ _ (sym c.in_ok-b.ensures) (sym c.in_ok-next.ensures) (sym c.is_ascii_digit.ensures.value ∙ c.if-not-is_ascii_digit.false) (sym c.is_ascii_digit-2.ensures.value ∙ c.if-is_ascii_digit.false) _ c.from.ensures
