-- `read::whole` meets its contract. Assumes nothing.
use native.Mathlib.Omega.{arith}
use Rattle.text.proofs.Digits.{whole_within, whole_none, whole_one, whole_padded, whole_many}
use Rattle.text.proofs.read.whole.Goals as goal

pub returns-then-e-at : goal.returns-then-e-at
returns-then-e-at c = whole_none c.requires c.if-e-at.true

pub returns-then-e-at-eq1 : goal.returns-then-e-at-eq1
returns-then-e-at-eq1 c = whole_one c.requires c.if-e-at-eq1.true

pub bounds-text-at : goal.bounds-text-at
bounds-text-at c = whole_within c.requires (omega arith)

pub returns-then-text-at-eq-DIGIT_0 : goal.returns-then-text-at-eq-DIGIT_0
returns-then-text-at-eq-DIGIT_0 c = whole_padded c.requires c.if-e-at.false c.if-e-at-eq1.false c.if-text-at-eq-DIGIT_0.true

pub returns : goal.returns
returns c = whole_many c.requires c.if-e-at.false c.if-text-at-eq-DIGIT_0.false
