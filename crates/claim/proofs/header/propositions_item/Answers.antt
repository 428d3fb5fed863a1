-- `header::propositions_item` meets its contract. Assumes nothing.
use Rattle.claim.proofs.Variants.{handed_on}
use Rattle.claim.proofs.HeaderItems.{propositions_taken, propositions_many, propositions_none}
use Rattle.claim.proofs.header.propositions_item.Goals as goal

pub returns-in_err-n : goal.returns-in_err-n
returns-in_err-n c = rw (handed_on c.from_residual.ensures) (propositions_none c.args.text.now c.args.at c.args.g _ c.in_err-n.ensures)

pub returns-then-n-le-MOST_PROPOSITIONS : goal.returns-then-n-le-MOST_PROPOSITIONS
returns-then-n-le-MOST_PROPOSITIONS c = propositions_taken c.args.text.now c.args.at c.args.g _ _ c.in_ok-n.ensures c.if-n-le-MOST_PROPOSITIONS.true c.names_on.result c.names_on.ensures

pub returns : goal.returns
returns c = propositions_many c.args.text.now c.args.at c.args.g _ _ c.in_ok-n.ensures c.if-n-le-MOST_PROPOSITIONS.false
