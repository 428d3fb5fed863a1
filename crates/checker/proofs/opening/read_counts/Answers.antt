-- `checker::opening::read_counts`: a row of three numbers, or none.
use Rattle.text.proofs.Reading.{row_read, row_fault}
use Rattle.checker.proofs.Heads.{counts_none, counts_some}
use Rattle.checker.proofs.opening.read_counts.Goals as goal

pub returns-in_err-row : goal.returns-in_err-row
returns-in_err-row c = rw c.from_residual.ensures (counts_none _ _ (row_fault 3 _ _ c.numbers_row.ensures c.in_err-row.was))

pub returns : goal.returns
returns c = counts_some _ _ (row_read 3 c.numbers_row.ensures c.in_ok-row.was)
