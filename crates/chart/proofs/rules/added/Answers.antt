-- `rules::added`: by the test.
use borrow.Author.Tests.{eq-eqb, ne_eqb}
use Rattle.chart.specs.Pairs.{added}
use Rattle.chart.proofs.rules.added.Goals as goal

pub returns-then-flags-care : goal.returns-then-flags-care
unfolding added
returns-then-flags-care c = rw (ne_eqb _ _ c.if-flags-care.true)

pub returns : goal.returns
unfolding added
returns c = rw (eq-eqb _ _ c.if-flags-care.false)
