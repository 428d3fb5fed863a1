-- `tokens::token_from` meets its contract: the first byte says which token it is. Assumes nothing.
use borrow.Author.Rules.{rules}
use mathlib.Core.Path.{sym, ◌∙◌}
use Rattle.text.specs.Numbers.{is_digit}
use Rattle.claim.proofs.Lexing.{first_letter, first_digit, first_symbol, first_quote, first_mark, first_at, first_slash, first_other}
use Rattle.claim.proofs.tokens.token_from.Goals as goal

pub number_from-requires : goal.number_from-requires
unfolding is_digit
number_from-requires c = record { at_in_bounds = search rules; at_value = sym c.is_ascii_digit.ensures.value ∙ c.if-is_ascii_digit.true }

pub returns-then-is_ascii_digit : goal.returns-then-is_ascii_digit
unfolding is_digit
returns-then-is_ascii_digit c = first_digit c.requires.at_in_bounds c.requires.at_lt_limit c.requires.at_value (sym c.is_ascii_digit.ensures.value ∙ c.if-is_ascii_digit.true) c.number_from.ensures

pub returns-then-letter : goal.returns-then-letter
returns-then-letter c = first_letter c.requires.at_in_bounds c.requires.at_lt_limit c.requires.at_value (sym c.letter.ensures ∙ c.if-letter.true) c.name_from.ensures

pub returns-then-symbol : goal.returns-then-symbol
unfolding is_digit
returns-then-symbol c = first_symbol c.requires.at_in_bounds c.requires.at_lt_limit c.requires.at_value (sym c.letter.ensures ∙ c.if-letter.false) (sym c.is_ascii_digit.ensures.value ∙ c.if-is_ascii_digit.false) (sym c.symbol.ensures ∙ c.if-symbol.true)

pub returns-then-b-eq34 : goal.returns-then-b-eq34
returns-then-b-eq34 c = first_quote c.requires.at_in_bounds c.requires.at_lt_limit c.if-b-eq34.true c.string_from.ensures

pub returns-then-b-eq45 : goal.returns-then-b-eq45
returns-then-b-eq45 c = first_mark c.requires.at_in_bounds c.requires.at_lt_limit c.if-b-eq45.true c.mark_from.ensures

pub returns-then-b-eq64 : goal.returns-then-b-eq64
returns-then-b-eq64 c = first_at c.requires.at_in_bounds c.requires.at_lt_limit c.if-b-eq64.true c.alias_from.ensures

pub returns-then-b-eq47 : goal.returns-then-b-eq47
returns-then-b-eq47 c = first_slash c.requires.at_in_bounds c.requires.at_lt_limit c.if-b-eq47.true c.comment_from.ensures

pub returns : goal.returns
unfolding is_digit
returns c = first_other c.requires.at_in_bounds c.requires.at_lt_limit c.requires.at_value (sym c.letter.ensures ∙ c.if-letter.false) (sym c.is_ascii_digit.ensures.value ∙ c.if-is_ascii_digit.false) (sym c.symbol.ensures ∙ c.if-symbol.false) c.if-b-eq34.false c.if-b-eq45.false c.if-b-eq64.false c.if-b-eq47.false
