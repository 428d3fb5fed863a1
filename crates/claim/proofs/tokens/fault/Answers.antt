-- `tokens::fault` meets its contract. Assumes nothing.
use Rattle.claim.proofs.Variants.{fault_other}
use borrow.Enum.Refused.{opened}
use Rattle.claim.proofs.tokens.fault.Goals as goal

pub returns-in_default : goal.returns-in_default
returns-in_default c = fault_other c.args.t (opened c.in_default.in_default-own.keys2)
