-- `write_checked`: the line of a refusal, or of either verdict.
use Rattle.desk.proofs.Writing.{refused_puts}
use Rattle.loopcheck.proofs.Printing.{writes_turned, writes_lasso, writes_empty}
use Rattle.loopcheck.proofs.write_checked.Goals as goal

pub returns-then-checked-ne0-clause-puts : goal.returns-then-checked-ne0-clause-puts
returns-then-checked-ne0-clause-puts c = writes_turned _ _ c.if-checked-ne0.true (refused_puts _ c.write_refusal.ensures.chain)

pub returns-then-checked-eq-LASSO-clause-puts : goal.returns-then-checked-eq-LASSO-clause-puts
returns-then-checked-eq-LASSO-clause-puts c = writes_lasso _ _ c.if-checked-ne0.false c.if-checked-eq-LASSO.true c.bytes.ensures.writes

pub returns-clause-puts : goal.returns-clause-puts
returns-clause-puts c = writes_empty _ _ c.if-checked-ne0.false c.if-checked-eq-LASSO.false c.bytes-2.ensures.writes
