-- `page::write_counts`: three fields, one after the other.
use Rattle.text.proofs.Chains.{puts_then, puts_as, field_puts}
use Rattle.claimcheck.proofs.Printing.{count_parts}
use Rattle.claimcheck.proofs.page.write_counts.Goals as goal

pub returns-clause-puts : goal.returns-clause-puts
returns-clause-puts c = puts_as (count_parts _ _ _) (puts_then (puts_then (field_puts _ _ c.field.ensures.chain) (field_puts _ _ c.field-2.ensures.chain)) (field_puts _ _ c.field-3.ensures.chain))
