-- `header::number_at` meets its contract. Assumes nothing.
use native.Mathlib.Omega.{arith}
use Rattle.claim.proofs.HeaderCode.{number_is, number_not}
use borrow.Enum.Refused.{opened}
use Rattle.claim.proofs.header.number_at.Goals as goal

pub overflow_add-result : goal.overflow_add-result
overflow_add-result c = let h = c.in-Some.ensures.1 in omega (arith, h.inside)

pub returns-in-Some : goal.returns-in-Some
returns-in-Some c = c.in-Some.ensures

pub returns-in-Number : goal.returns-in-Number
returns-in-Number c = number_is c.claim_token-token.ensures _ c.in-Number.is

pub returns-in_default-token : goal.returns-in_default-token
returns-in_default-token c = number_not c.claim_token-token.ensures (opened c.in_default-token.in_default-token-own.keys2) _ c.fault.ensures
