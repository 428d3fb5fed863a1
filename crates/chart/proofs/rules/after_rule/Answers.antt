-- `rules::after_rule`: by the test.
use borrow.Author.Tests.{le-leb, lt-leb}
use Rattle.chart.specs.Pairs.{after_rule}
use Rattle.chart.proofs.rules.after_rule.Goals as goal

pub returns-then-entry-ge-TWO_RULES : goal.returns-then-entry-ge-TWO_RULES
unfolding after_rule
returns-then-entry-ge-TWO_RULES c = rw (le-leb _ _ c.if-entry-ge-TWO_RULES.true)

pub returns : goal.returns
unfolding after_rule
returns c = rw (lt-leb _ _ c.if-entry-ge-TWO_RULES.false)
