-- `tokens::number_from` meets its contract: the digits up to a place have a value below 2 ^ 31. Assumes nothing.
use Prim.Native.Nat.{◌+◌, ◌-◌, ◌≤◌, max}
use lib.ListN.{get_or}
use Rattle.model.specs.ClaimTokens.{in_number}
use Rattle.claim.specs.Reads.{lexed}
use Rattle.claim.proofs.Lexing.{DigitsSoFar}
use Rattle.claim.proofs.tokens.number_from.Given as goal

abbrev pub invariant-loop-e : goal.invariant-loop-e
invariant-loop-e l = DigitsSoFar l.text l.limit l.at (lexed l.text l.limit (in_number (get_or l.text l.at 0 - 48)) (l.at + 1)) l.v l.e × (l.e ≤ max l.stop (l.at + 1))
