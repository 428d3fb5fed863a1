-- `labels::leaf` meets its contract. Assumes nothing.
use mathlib.Core.Path.{sym}
use native.Mathlib.Omega.{arith}
use Rattle.claim.proofs.LabelCode.{letter_is, leaf_number, leaf_name, name_is, leaf_refused}
use Rattle.claim.proofs.HeaderCode.{number_is}
use borrow.Enum.Refused.{opened}
use Rattle.claim.proofs.labels.leaf.Goals as goal

pub overflow_add-at : goal.overflow_add-at
overflow_add-at c = let h = c.in-Some.ensures.1 in omega (arith, h.inside)

pub returns-in-Some : goal.returns-in-Some
returns-in-Some c = λ d. leaf_number _ c.args.count d _ _ _ _ c.in-Some.ensures c.past_blanks.ensures c.proposition.result c.proposition.ensures

pub overflow_add-at-in-Some-lone_letter : goal.overflow_add-at-in-Some-lone_letter
overflow_add-at-in-Some-lone_letter c = let h = c.in-Some-lone_letter.ensures.1 in omega (arith, h.inside)

pub returns-in-Some-lone_letter : goal.returns-in-Some-lone_letter
returns-in-Some-lone_letter c = λ d. leaf_name _ _ d _ _ _ _ c.in-Some-lone_letter.ensures c.past_blanks-in-Some-lone_letter.ensures _ _ (letter_is _ _) (letter_is _ _) _ c.constant.ensures

pub returns-in-Name : goal.returns-in-Name
returns-in-Name c = λ d. leaf_name _ _ d _ _ _ _ (name_is c.claim_token-token.ensures _ _ c.in-Name.is) c.past_blanks-past.ensures _ _ (sym c.word.ensures) (sym c.word-in-Name.ensures) _ c.constant-in-Name.ensures

pub returns-in-Number : goal.returns-in-Number
returns-in-Number c = λ d. leaf_number _ c.args.count d _ _ _ _ (number_is c.claim_token-token.ensures _ c.in-Number.is) c.past_blanks-past.ensures c.proposition-in-Number.result c.proposition-in-Number.ensures

pub returns-in_default-token : goal.returns-in_default-token
returns-in_default-token c = λ d. leaf_refused c.claim_token-token.ensures _ d (opened c.in_default-token.in_default-token-own.keys3) c.requires.at_value c.requires.at_value_2 _ c.no_atom.ensures
