-- `header::states_item` meets its contract. Assumes nothing.
use Rattle.claim.proofs.Variants.{handed_on}
use Rattle.claim.proofs.HeaderCode.{states_taken, states_broken, states_none}
use Rattle.claim.proofs.header.states_item.Goals as goal

pub returns-in_err-n : goal.returns-in_err-n
returns-in_err-n c = rw (handed_on c.from_residual.ensures) (states_none c.args.text.now c.args.at c.args.g _ c.in_err-n.ensures)

pub returns-then-n-starts_below : goal.returns-then-n-starts_below
returns-then-n-starts_below c = states_taken c.args.text.now c.args.at c.args.g c.requires _ _ c.in_ok-n.ensures (rw c.starts_below.ensures at c.if-n-starts_below.true)

pub returns : goal.returns
returns c = states_broken c.args.text.now c.args.at c.args.g c.requires _ _ c.in_ok-n.ensures (rw c.starts_below.ensures at c.if-n-starts_below.false)
