-- `body::add_moves` meets its contract: a word at a time. Assumes nothing.
use Rattle.claim.proofs.MoveCode.{AddingWords}
use Rattle.claim.proofs.body.add_moves.Given as goal

abbrev pub invariant-loop-k : goal.invariant-loop-k
invariant-loop-k l = AddingWords l.first l.d l.fn.w l.initial.cells l.cells l.k
