-- `read::number_in` meets its contract: the digits are the whole part, or it is no number. Assumes nothing.
use mathlib.Core.Path.{◌∙◌}
use Rattle.text.proofs.Digits.{run_read, part_none, part_longer, part_number}
use Rattle.text.proofs.read.number_in.Goals as goal

pub returns-in_err-row : goal.returns-in_err-row
returns-in_err-row c = c.from_residual.ensures ∙ part_none _ c.digits_at.ensures c.in_err-row.was

pub returns-then-row-part : goal.returns-then-row-part
returns-then-row-part c = part_longer (run_read c.digits_at.ensures c.in_ok-row.was) c.if-row-part.true

pub returns : goal.returns
returns c = part_number (run_read c.digits_at.ensures c.in_ok-row.was) c.if-row-part.false
