-- `labels::negated` meets its contract. Assumes nothing.
use Rattle.claim.proofs.Variants.{handed_on}
use Rattle.claim.proofs.labels.negated.Goals as goal

pub returns-in_err-w : goal.returns-in_err-w
returns-in_err-w c = rw c.in_err-w.was (handed_on c.from_residual.ensures)

pub returns-then-odd : goal.returns-then-odd
returns-then-odd c = rw (c.in_ok-w.was, c.if-odd.true, c.not.ensures)

pub returns : goal.returns
returns c = rw (c.in_ok-w.was, c.if-odd.false)
