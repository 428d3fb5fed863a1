-- `page::write_head`: the lines, one after the other.
use Rattle.text.proofs.Chains.{puts_then, puts_as}
use Rattle.looplist.proofs.Printing.{head_parts}
use Rattle.looplist.proofs.page.write_head.Goals as goal

pub returns-clause-puts : goal.returns-clause-puts
returns-clause-puts c = puts_as (head_parts _ _ _ _) (puts_then (puts_then (puts_then c.write_count.ensures.puts c.write_verdict.ensures.puts) c.write_count-2.ensures.puts) c.write_tallies.ensures.puts)
