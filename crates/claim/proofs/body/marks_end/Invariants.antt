-- `body::marks_end` meets its contract: the numbers so far are the mark's. Assumes nothing.
use Prim.Native.Nat.{◌-◌}
use lib.ListN.{length}
use Rattle.claim.proofs.BodyCode.{MarksSoFar}
use Rattle.claim.proofs.body.marks_end.Given as goal

abbrev pub invariant-loop-v : goal.invariant-loop-v
invariant-loop-v l = MarksSoFar l.text l.at l.any l.here

abbrev pub decreases-loop-v : goal.decreases-loop-v
decreases-loop-v l = length l.text - l.here
