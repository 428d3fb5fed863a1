-- `read::numbers_row` meets its contract: the rest of the line begins at the place. Assumes nothing.
use mathlib.Core.Path.{◌∙◌}
use native.Mathlib.Omega.{arith}
use lib.ListN.{length-replicate}
use Rattle.text.proofs.ReadingRows.{parted, not_parted}
use Rattle.text.proofs.Reading.{no_row_of_none, under_start, under_more, under_fault, under_last, under_no_last}
use Rattle.text.proofs.read.numbers_row.Goals as goal

pub returns-in_err-last : goal.returns-in_err-last
returns-in_err-last g c = c.from_residual.ensures ∙ no_row_of_none _ _ _ c.in_err-last.ensures

pub loop-i-init : goal.loop-i-init
loop-i-init g c = under_start _ _ _ _ (length-replicate g.row.N 0) c.in_ok-last.ensures.0

pub returns-in_err-row : goal.returns-in_err-row
returns-in_err-row g c =
    c.from_residual-in_err-row.ensures
    ∙ under_fault c.loop-i.invariant (omega (arith, c.in_ok-last.ensures.1)) (not_parted _ _ c.number_before.ensures c.in_err-row.was)

pub loop-i-preserved : goal.loop-i-preserved
loop-i-preserved g c = under_more c.loop-i.invariant (omega (arith, c.in_ok-last.ensures.1)) (parted c.number_before.ensures c.in_ok-row.was)

pub returns-in_err-row-2 : goal.returns-in_err-row-2
returns-in_err-row-2 g c =
    c.from_residual-in_err-row-2.ensures
    ∙ under_no_last c.loop-i.invariant (omega (arith, c.in_ok-last.ensures.1, c.loop-i.invariant.left)) c.number_before-2.ensures c.in_err-row-2.was

pub returns : goal.returns
returns g c =
    under_last c.loop-i.invariant (omega (arith, c.in_ok-last.ensures.1, c.loop-i.invariant.left)) (omega (arith, c.in_ok-last.ensures.1, c.loop-i.invariant.left))
    c.number_before-2.ensures c.in_ok-row-2.was
