-- `body::add_moves` meets its contract: a word at a time. Assumes nothing.
use Rattle.claim.proofs.MoveCode.{words_more}
use Rattle.claim.proofs.body.add_moves.Goals as goal

pub loop-k-preserved : goal.loop-k-preserved
loop-k-preserved c = words_more c.loop-k.invariant c.loop-k-test.true c.add_word.auto.cells c.add_word.ensures
