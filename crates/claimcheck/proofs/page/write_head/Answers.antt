-- `page::write_head`: three lines, one after the other.
use Rattle.text.proofs.Chains.{puts, puts_then, puts_as}
use Rattle.claimcheck.proofs.Printing.{head_parts}
use Rattle.claimcheck.proofs.page.write_head.Goals as goal

pub returns-clause-puts : goal.returns-clause-puts
returns-clause-puts c = puts_as (head_parts _ _ _) (puts_then (puts_then (puts c.bytes.ensures.writes) c.write_counts.ensures.puts) (puts c.bytes-2.ensures.writes))
