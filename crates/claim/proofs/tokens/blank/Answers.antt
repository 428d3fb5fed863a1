-- `tokens::blank` meets its contract. Assumes nothing.
use native.Mathlib.Omega.{arith}
use Rattle.std.proofs.lemmas.Bool.Decides.{nat_tests}
use Rattle.model.specs.ClaimTokens.{is_blank}
use Rattle.claim.proofs.tokens.blank.Goals as goal

pub returns-in_default : goal.returns-in_default
unfolding is_blank
returns-in_default c = grind (arith, nat_tests)

pub returns-in_default-2 : goal.returns-in_default-2
unfolding is_blank
returns-in_default-2 c = grind (arith, nat_tests)

pub returns-in-32 : goal.returns-in-32
unfolding is_blank
returns-in-32 c = grind (arith, nat_tests)

pub returns-in-32-2 : goal.returns-in-32-2
unfolding is_blank
returns-in-32-2 c = grind (arith, nat_tests)
