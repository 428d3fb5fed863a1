-- `body::add_edges` meets its contract: a target a turn. Assumes nothing.
use Rattle.claim.proofs.MoveCode.{Spreading}
use Rattle.claim.proofs.body.add_edges.Given as goal

abbrev pub invariant-loop-d : goal.invariant-loop-d
invariant-loop-d l = Spreading l.c l.leads l.sets l.initial.cells l.cells l.d
