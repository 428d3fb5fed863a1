-- `read::signed_last` meets its contract: the sign, or none, and then a row of one number. Assumes nothing.
use mathlib.Core.Path.{sym, ◌∙◌}
use native.Mathlib.Omega.{arith}
use Rattle.text.proofs.Reading.{row_read, row_fault}
use Rattle.text.proofs.ReadingSigned.{minus_within, signed_minus_read, signed_minus_none, signed_plain_read, signed_plain_none}
use Rattle.text.proofs.read.signed_last.Goals as goal

pub overflow_add-at : goal.overflow_add-at
overflow_add-at c =
    let a = c.args in
    omega (arith, minus_within a.text.now a.at (sym c.if-minus_at.true ∙ c.minus_at.ensures))

pub returns-in_err-row : goal.returns-in_err-row
returns-in_err-row c =
    c.from_residual.ensures ∙ signed_minus_none _ (sym c.if-minus_at.true ∙ c.minus_at.ensures) (row_fault 1 _ _ c.numbers_row.ensures c.in_err-row.was)

pub returns-then-minus_at : goal.returns-then-minus_at
returns-then-minus_at c = signed_minus_read _ (sym c.if-minus_at.true ∙ c.minus_at.ensures) (row_read 1 c.numbers_row.ensures c.in_ok-row.was)

pub returns-in_err-row-2 : goal.returns-in_err-row-2
returns-in_err-row-2 c =
    c.from_residual-in_err-row-2.ensures ∙ signed_plain_none (sym c.if-minus_at.false ∙ c.minus_at.ensures) (row_fault 1 _ _ c.numbers_row-2.ensures c.in_err-row-2.was)

pub returns : goal.returns
returns c = signed_plain_read (sym c.if-minus_at.false ∙ c.minus_at.ensures) (row_read 1 c.numbers_row-2.ensures c.in_ok-row-2.was)
