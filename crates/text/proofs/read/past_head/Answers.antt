-- `read::past_head` meets its contract: three lines, one by one. Assumes nothing.
use Rattle.text.proofs.Places.{skip_three}
use Rattle.text.proofs.read.past_head.Goals as goal

pub returns : goal.returns
returns c = skip_three _ _ c.next_line-second.ensures c.next_line-third.ensures c.next_line.ensures
