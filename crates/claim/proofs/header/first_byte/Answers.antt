-- `header::first_byte` meets its contract. Assumes nothing.
use Rattle.claim.proofs.HeaderLoop.{first_is, first_past, first_cut}
use Rattle.claim.proofs.header.first_byte.Goals as goal

pub returns-then-a-text : goal.returns-then-a-text
returns-then-a-text c = first_is _ _ _ c.if-a-text.true c.if-a-e.true

pub returns-else-a-text : goal.returns-else-a-text
returns-else-a-text c = first_past _ _ _ c.if-a-text.false

pub returns-else-a-e : goal.returns-else-a-e
returns-else-a-e c = first_cut _ _ _ c.if-a-e.false
