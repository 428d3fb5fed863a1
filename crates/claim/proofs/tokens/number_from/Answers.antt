-- `tokens::number_from` meets its contract: the digits up to a place have a value below 2 ^ 31. Assumes nothing.
use mathlib.Core.Path.{◌≡◌, refl, sym, ◌∙◌}
use mathlib.Core.Bool.{true}
use lib.ListN.{get_or}
use native.Mathlib.Omega.{arith}
use Rattle.text.specs.Numbers.{is_digit}
use Rattle.claim.proofs.Lexing.{digit_low, digit_high, digits_more, digits_break, digits_whole, digits_cut, digits_last}
use Rattle.claim.proofs.tokens.number_from.Goals as goal

pub overflow_sub-text : goal.overflow_sub-text
overflow_sub-text c = digit_low _ c.requires.at_value

pub loop-e-init : goal.loop-e-init
loop-e-init c = (rw c.from-v.ensures (record { same = refl; ahead = omega arith; inside = omega arith; fits = omega (arith, digit_high (get_or c.args.text.now c.args.at 0) c.requires.at_value) }), omega arith)

pub returns-then-not-is_ascii_digit : goal.returns-then-not-is_ascii_digit
unfolding is_digit
returns-then-not-is_ascii_digit c = digits_whole c.loop-e.invariant.0 (omega arith) (omega arith) (sym c.is_ascii_digit.ensures.value ∙ c.if-not-is_ascii_digit.true)

pub overflow_sub-b : goal.overflow_sub-b
unfolding is_digit
overflow_sub-b c = digit_low _ (sym c.is_ascii_digit.ensures.value ∙ c.if-not-is_ascii_digit.false)

pub overflow_add-w : goal.overflow_add-w
unfolding is_digit
overflow_add-w c = let d : is_digit (get_or c.args.text.now c.loop-e.e 0) ≡ true = sym c.is_ascii_digit.ensures.value ∙ c.if-not-is_ascii_digit.false in omega (arith, digit_high (get_or c.args.text.now c.loop-e.e 0) d, c.loop-e.invariant.0.fits)

pub returns-then-v-w : goal.returns-then-v-w
unfolding is_digit
returns-then-v-w c = digits_break c.loop-e.invariant.0 (omega arith) (omega arith) (sym c.is_ascii_digit.ensures.value ∙ c.if-not-is_ascii_digit.false) (rw c.from.ensures at c.if-v-w.true)

pub loop-e-preserved : goal.loop-e-preserved
unfolding is_digit
loop-e-preserved c = (rw c.from.ensures (digits_more c.loop-e.invariant.0 (omega arith) (omega arith) (sym c.is_ascii_digit.ensures.value ∙ c.if-not-is_ascii_digit.false) (rw c.from.ensures at c.if-v-w.false)), omega arith)

pub returns-then-next-text : goal.returns-then-next-text
returns-then-next-text c = let q : c.max-next.result ≡ c.loop-e.e = omega (arith, c.loop-e.invariant.0.ahead) in rw q (digits_cut c.loop-e.invariant.0 (omega arith) (omega arith))

pub returns : goal.returns
returns c = let q : c.max-next.result ≡ c.loop-e.e = omega (arith, c.loop-e.invariant.0.ahead) in rw q (digits_last c.loop-e.invariant.0 (omega arith))
