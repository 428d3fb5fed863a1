-- `header::sets_on` meets its contract. Assumes nothing.
use Rattle.claim.proofs.Variants.{handed_on}
use Rattle.claim.proofs.HeaderCode.{sets_is, sets_other, sets_none}
use Rattle.claim.proofs.header.sets_on.Goals as goal

pub returns-in_err-n : goal.returns-in_err-n
returns-in_err-n c = rw (handed_on c.from_residual.ensures) (sets_none c.args.text.now c.args.at _ c.in_err-n.ensures)

pub returns-then-n-eq1 : goal.returns-then-n-eq1
returns-then-n-eq1 c = sets_is c.args.text.now c.args.at _ _ c.in_ok-n.ensures c.if-n-eq1.true c.inf_on.result c.inf_on.ensures

pub returns : goal.returns
returns c = sets_other c.args.text.now c.args.at _ _ c.in_ok-n.ensures c.if-n-eq1.false
