-- `header::header_at` meets its contract: the items so far give what is known of them. Assumes nothing.
use Prim.Native.Nat.{◌-◌}
use lib.ListN.{length}
use Rattle.claim.proofs.HeaderLoop.{ItemsSoFar}
use Rattle.claim.proofs.header.header_at.Given as goal

abbrev pub invariant-loop-a : goal.invariant-loop-a
invariant-loop-a l = ItemsSoFar l.text l.at l.g l.last l.here

abbrev pub decreases-loop-a : goal.decreases-loop-a
decreases-loop-a l = length l.text - l.here
