-- `body::add_word` meets its contract: a cell at a time, where the word has some bits and not all. Assumes nothing.
use Rattle.claim.proofs.MoveCode.{Adding}
use Rattle.claim.proofs.body.add_word.Given as goal

abbrev pub invariant-loop-i : goal.invariant-loop-i
invariant-loop-i l = Adding l.first l.d l.word l.initial.cells l.cells l.i
