-- `page::write_fault`: by the refusal.
use native.Mathlib.Omega.{arith}
use Rattle.chartcheck.proofs.Printing.{writes_gap, writes_overlap}
use Rattle.chartcheck.proofs.page.write_fault.Goals as goal

pub returns-in-18-clause-puts : goal.returns-in-18-clause-puts
returns-in-18-clause-puts c = writes_gap _ c.in-18.is c.bytes.ensures.writes

pub returns-in_default-clause-puts : goal.returns-in_default-clause-puts
returns-in_default-clause-puts c = writes_overlap _ (λ e. omega arith) c.bytes-in_default.ensures.writes
