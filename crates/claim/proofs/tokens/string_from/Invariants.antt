-- `tokens::string_from` meets its contract: the string up to a place that follows no backslash. Assumes nothing.
use Prim.Native.Nat.{◌+◌, ◌-◌}
use mathlib.Core.List.{[]}
use Rattle.model.specs.ClaimTokens.{in_string}
use Rattle.claim.specs.Reads.{lexed}
use Rattle.claim.proofs.Lexing.{StringSoFar}
use Rattle.claim.proofs.tokens.string_from.Given as goal

abbrev pub invariant-loop-e : goal.invariant-loop-e
invariant-loop-e l = StringSoFar l.text l.limit l.at (lexed l.text l.limit (in_string []) (l.at + 1)) l.e

abbrev pub decreases-loop-e : goal.decreases-loop-e
decreases-loop-e l = l.stop - l.e
