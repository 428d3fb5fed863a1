-- `tokens::name_end` meets its contract: only bytes of a name are passed. Assumes nothing.
use mathlib.Core.Path.{◌≡◌}
use Prim.Native.Nat.{◌+◌, ◌-◌, ◌<◌, ◌≤◌}
use lib.ListN.{length}
use Rattle.model.specs.ClaimTokens.{in_name}
use Rattle.claim.specs.Reads.{part, lexed}
use Rattle.claim.proofs.tokens.name_end.Given as goal

abbrev pub invariant-loop-e : goal.invariant-loop-e
invariant-loop-e l = (lexed l.text l.limit (in_name (part l.text l.at (l.at + 1))) (l.at + 1) ≡ lexed l.text l.limit (in_name (part l.text l.at l.e)) l.e) × (l.at < l.e) × (l.e ≤ length l.text)

abbrev pub decreases-loop-e : goal.decreases-loop-e
decreases-loop-e l = l.stop - l.e
