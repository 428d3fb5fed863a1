-- `tokens::lone_letter` meets its contract. Assumes nothing.
use mathlib.Core.Path.{sym, ◌∙◌}
use native.Mathlib.Omega.{arith}
use borrow.Author.Tests.{eqb-false}
use Rattle.text.proofs.Tests.{or_false}
use Rattle.claim.proofs.Signs.{byte_inside, letter_alone}
use Rattle.claim.proofs.tokens.lone_letter.Goals as goal

pub overflow_add-at : goal.overflow_add-at
overflow_add-at c = omega (arith, (byte_inside _ _ _ (sym c.in_ok-b.ensures)).0)

pub returns : goal.returns
returns c =
    let rest = or_false _ _ c.if-next-name_byte.false in
    letter_alone _ _ _ _ (sym c.in_ok-b.ensures) (sym c.in_ok-next.ensures) (sym c.letter.ensures ∙ c.if-not-letter.false) (eqb-false _ _ rest.0) (sym c.name_byte.ensures ∙ rest.1)
