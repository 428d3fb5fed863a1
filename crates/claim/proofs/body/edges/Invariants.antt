-- `body::edges` meets its contract: an edge a turn. Assumes nothing.
use Prim.Native.Nat.{◌-◌}
use lib.ListN.{length}
use Rattle.claim.proofs.EdgeCode.{EdgesSoFar}
use Rattle.claim.proofs.body.edges.Given as goal

abbrev pub invariant-loop-sets : goal.invariant-loop-sets
invariant-loop-sets l = EdgesSoFar l.text l.states l.count l.at l.sets l.leads l.here

abbrev pub decreases-loop-sets : goal.decreases-loop-sets
decreases-loop-sets l = length l.text - l.here
