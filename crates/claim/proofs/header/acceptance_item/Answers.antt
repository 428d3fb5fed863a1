-- `header::acceptance_item` meets its contract. Assumes nothing.
use Rattle.claim.proofs.Variants.{handed_on}
use Rattle.claim.proofs.HeaderCode.{acceptance_taken, acceptance_none}
use Rattle.claim.proofs.header.acceptance_item.Goals as goal

pub returns-in_err-next : goal.returns-in_err-next
returns-in_err-next c = rw (handed_on c.from_residual.ensures) (acceptance_none c.args.text.now c.args.at c.args.g _ c.in_err-next.ensures)

pub returns : goal.returns
returns c = acceptance_taken c.args.text.now c.args.at c.args.g _ c.in_ok-next.ensures
