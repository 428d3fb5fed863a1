-- `tokens::blanks_end` meets its contract: only blanks are passed. Assumes nothing.
use mathlib.Core.Path.{◌≡◌}
use Prim.Native.Nat.{◌-◌, ◌≤◌}
use lib.ListN.{length}
use Rattle.claim.specs.Reads.{tokens_at}
use Rattle.claim.proofs.tokens.blanks_end.Given as goal

abbrev pub invariant-loop-e : goal.invariant-loop-e
invariant-loop-e l = (tokens_at l.text l.limit l.at ≡ tokens_at l.text l.limit l.e) × (l.at ≤ l.e) × (l.at ≤ length l.text → l.e ≤ length l.text)

abbrev pub decreases-loop-e : goal.decreases-loop-e
decreases-loop-e l = l.stop - l.e
