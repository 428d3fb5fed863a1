-- `header::skipped_end` meets its contract: only what is skipped is passed. Assumes nothing.
use Prim.Native.Nat.{◌-◌}
use lib.ListN.{length}
use Rattle.claim.proofs.Skipping.{PassedSoFar}
use Rattle.claim.proofs.header.skipped_end.Given as goal

abbrev pub invariant-loop-at : goal.invariant-loop-at
invariant-loop-at l = PassedSoFar l.text l.at l.here

abbrev pub decreases-loop-at : goal.decreases-loop-at
decreases-loop-at l = length l.text - l.here
