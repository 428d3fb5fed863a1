-- `body::end_on` meets its contract. Assumes nothing.
use Rattle.claim.proofs.LineCode.{end_is, end_not}
use borrow.Enum.Refused.{opened}
use Rattle.claim.proofs.body.end_on.Goals as goal

pub returns-in-Done : goal.returns-in-Done
returns-in-Done c = end_is c.claim_token.ensures c.in-Done.is

pub returns-in_default : goal.returns-in_default
returns-in_default c = end_not c.claim_token.ensures (opened c.in_default.in_default-own.keys2) _ c.fault.ensures
