-- `page::write_claim`: the head, and behind it the states.
use Rattle.text.proofs.Chains.{puts_then, puts_as}
use Rattle.claimcheck.proofs.Printing.{claim_parts, count_states, head_of}
use Rattle.claimcheck.proofs.page.write_claim.Goals as goal

pub write_states-requires : goal.write_states-requires
write_states-requires c = record { states_value = count_states _ _ c.requires.counts_value; claim_there = c.requires.claim_there }

pub returns-clause-puts : goal.returns-clause-puts
returns-clause-puts c = puts_as (claim_parts _) (puts_then (puts_as (head_of _ _ c.requires.counts_value) c.write_head.ensures.puts) c.write_states.ensures.puts)
