-- `header::continues` meets its contract. Assumes nothing.
use Rattle.claim.proofs.HeaderLoop.{continues_start, continues_acceptance, continues_not}
use borrow.Enum.Refused.{opened}
use Rattle.claim.proofs.header.continues.Goals as goal

pub returns-in-Start : goal.returns-in-Start
returns-in-Start c = continues_start _ _ c.in-Start.is _ c.is_symbol.ensures

pub returns-in-Acceptance : goal.returns-in-Acceptance
returns-in-Acceptance c = continues_acceptance _ _ c.in-Acceptance.is _ _ c.is_symbol-in-Acceptance.ensures c.is_symbol-in-Acceptance-2.ensures

pub returns-in_default : goal.returns-in_default
returns-in_default c = continues_not c.args.last c.args.t (opened c.in_default.in_default-own.keys3)
