-- `header::string_at` meets its contract. Assumes nothing.
use Rattle.claim.proofs.HeaderItems.{string_is, string_not}
use borrow.Enum.Refused.{opened}
use Rattle.claim.proofs.header.string_at.Goals as goal

pub returns-in-Text : goal.returns-in-Text
returns-in-Text c = string_is c.claim_token-token.ensures _ _ c.in-Text.is

pub returns-in_default : goal.returns-in_default
returns-in_default c = string_not c.claim_token-token.ensures (opened c.in_default.in_default-own.keys2) _ c.fault.ensures
