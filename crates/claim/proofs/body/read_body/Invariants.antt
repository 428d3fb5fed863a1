-- `body::read_body` meets its contract: a state line a turn. Assumes nothing.
use Prim.Native.Nat.{◌-◌}
use lib.ListN.{length}
use Rattle.claim.proofs.BodyWhole.{LinesSoFar}
use Rattle.claim.proofs.body.read_body.Given as goal

abbrev pub invariant-loop-next : goal.invariant-loop-next
invariant-loop-next l = LinesSoFar l.text l.states l.count l.at l.initial.cells l.cells l.here l.listed l.lines

abbrev pub decreases-loop-next : goal.decreases-loop-next
decreases-loop-next l = length l.text - l.here
