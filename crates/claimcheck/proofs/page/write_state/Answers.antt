-- `page::write_state`: number, mark and name, one after the other.
use Rattle.text.proofs.Chains.{puts_then, puts_as, field_puts}
use Rattle.claimcheck.proofs.Printing.{marked, state_parts}
use Rattle.claimcheck.proofs.page.write_state.Goals as goal

pub returns-clause-puts : goal.returns-clause-puts
returns-clause-puts c = puts_as (state_parts _ _) (puts_then (puts_then (field_puts _ _ c.field.ensures.chain) (marked _ _ _ c.requires.claim_there c.requires.c_lt_most_states c.number.ensures.writes)) c.write_name.ensures.puts)
