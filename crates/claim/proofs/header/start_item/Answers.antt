-- `header::start_item` meets its contract. Assumes nothing.
use Rattle.claim.proofs.Variants.{handed_on}
use Rattle.claim.proofs.HeaderCode.{start_taken, start_broken, start_none}
use Rattle.claim.proofs.header.start_item.Goals as goal

pub returns-in_err-n : goal.returns-in_err-n
returns-in_err-n c = rw (handed_on c.from_residual.ensures) (start_none c.args.text.now c.args.at c.args.g _ c.in_err-n.ensures)

pub returns-then-n-unwrap_or : goal.returns-then-n-unwrap_or
returns-then-n-unwrap_or c = start_taken c.args.text.now c.args.at c.args.g c.requires _ _ c.in_ok-n.ensures _ c.unwrap_or.ensures c.if-n-unwrap_or.true

pub returns : goal.returns
returns c = start_broken c.args.text.now c.args.at c.args.g c.requires _ _ c.in_ok-n.ensures _ c.unwrap_or.ensures c.if-n-unwrap_or.false
