-- `page::write_charted`: `pass`, or the refusal, alone or with its pair.
use Rattle.chartcheck.proofs.Printing.{writes_pass, writes_refused}
use Rattle.chartcheck.proofs.page.write_charted.Goals as goal

pub returns-then-said-eq0-clause-puts : goal.returns-then-said-eq0-clause-puts
returns-then-said-eq0-clause-puts c = writes_pass _ c.if-said-eq0.true c.bytes.ensures.writes

pub returns-clause-puts : goal.returns-clause-puts
returns-clause-puts c = writes_refused _ c.if-said-eq0.false c.write_refused.ensures.chain
