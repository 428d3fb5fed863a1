-- `page::write_verdict`: the word of each verdict.
use native.Mathlib.Omega.{arith}
use Rattle.looplist.proofs.Printing.{writes_lasso, writes_empty, writes_none}
use Rattle.looplist.proofs.page.write_verdict.Goals as goal

pub returns-in-1-clause-puts : goal.returns-in-1-clause-puts
returns-in-1-clause-puts c = writes_lasso _ c.in-1.is c.bytes.ensures.writes

pub returns-in-2-clause-puts : goal.returns-in-2-clause-puts
returns-in-2-clause-puts c = writes_empty _ c.in-2.is c.bytes-in-2.ensures.writes

pub returns-in_default-clause-puts : goal.returns-in_default-clause-puts
returns-in_default-clause-puts c = writes_none _ (λ e. omega arith) (λ e. omega arith) c.bytes-in_default.ensures.writes
