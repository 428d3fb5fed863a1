-- `write_head` meets its contract: six writers, one after the other.
use Rattle.text.proofs.Chains.{puts, puts_as, puts_then, field_puts}
use Rattle.product.proofs.CaseLines.{head_parts}
use Rattle.product.proofs.case.write_head.Goals as goal

pub returns-clause-head : goal.returns-clause-head
returns-clause-head c =
    puts_as (head_parts _ _ _ _)
    (puts_then
    (puts_then
    (puts_then (puts_then (puts_then (puts c.bytes.ensures.writes) (field_puts _ _ c.field.ensures.chain)) (field_puts _ _ c.field-2.ensures.chain)) (field_puts _ _ c.field-3.ensures.chain))
    (field_puts _ _ c.field-4.ensures.chain))
    (puts c.bytes-2.ensures.writes))
