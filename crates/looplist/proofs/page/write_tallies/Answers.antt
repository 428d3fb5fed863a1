-- `page::write_tallies`: three lines, one after the other.
use Rattle.text.proofs.Chains.{puts_then, puts_as}
use Rattle.looplist.proofs.Printing.{tally_parts}
use Rattle.looplist.proofs.page.write_tallies.Goals as goal

pub returns-clause-puts : goal.returns-clause-puts
returns-clause-puts c = puts_as (tally_parts _) (puts_then (puts_then c.write_count.ensures.puts c.write_count-2.ensures.puts) c.write_count-3.ensures.puts)
