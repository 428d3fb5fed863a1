-- `tokens::symbol` meets its contract. Assumes nothing.
use Rattle.model.specs.Run.{member}
use native.Mathlib.Omega.{arith}
use Rattle.std.proofs.lemmas.Bool.Decides.{nat_tests}
use Rattle.model.specs.ClaimTokens.{is_symbol}
use Rattle.claim.proofs.tokens.symbol.Goals as goal

pub returns-in_default : goal.returns-in_default
unfolding is_symbol member
returns-in_default c = grind (arith, nat_tests)

pub returns-in_default-2 : goal.returns-in_default-2
unfolding is_symbol member
returns-in_default-2 c = grind (arith, nat_tests)

pub returns-in_default-3 : goal.returns-in_default-3
unfolding is_symbol member
returns-in_default-3 c = grind (arith, nat_tests)

pub returns-in-91 : goal.returns-in-91
unfolding is_symbol member
returns-in-91 c = grind (arith, nat_tests)

pub returns-in-91-2 : goal.returns-in-91-2
unfolding is_symbol member
returns-in-91-2 c = grind (arith, nat_tests)

pub returns-in-91-3 : goal.returns-in-91-3
unfolding is_symbol member
returns-in-91-3 c = grind (arith, nat_tests)
