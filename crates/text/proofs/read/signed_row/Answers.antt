-- `read::signed_row` meets its contract: a number and a row of one signed number. Assumes nothing.
use mathlib.Core.Path.{◌∙◌}
use Rattle.text.proofs.ReadingRows.{parted, not_parted}
use Rattle.text.proofs.ReadingSigned.{signed_row_read, signed_row_later, signed_row_none}
use Rattle.text.proofs.read.signed_row.Goals as goal

pub returns-in_err-row : goal.returns-in_err-row
returns-in_err-row c = c.from_residual.ensures ∙ signed_row_none (not_parted _ _ c.number_before.ensures c.in_err-row.was)

pub returns-in_err-signed : goal.returns-in_err-signed
returns-in_err-signed c = c.from_residual-in_err-signed.ensures ∙ signed_row_later (parted c.number_before.ensures c.in_ok-row.was) c.signed_last.ensures c.in_err-signed.was

pub returns : goal.returns
returns c = signed_row_read (parted c.number_before.ensures c.in_ok-row.was) c.signed_last.ensures c.in_ok-signed.was
