-- `chart::entry_refusal`: by the first test that decides.
use borrow.Author.Tests.{eq-eqb, ne_eqb, le-leb, lt-leb}
use Rattle.model.specs.Refusals.{refusal_of}
use Rattle.chart.specs.Pairs.{entry_refusal}
use Rattle.chart.proofs.entry_refusal.Goals as goal

pub returns-then-entry-eq-NO_RULE : goal.returns-then-entry-eq-NO_RULE
unfolding entry_refusal refusal_of
returns-then-entry-eq-NO_RULE c = rw (eq-eqb _ _ c.if-entry-eq-NO_RULE.true)

pub returns-then-entry-ge-TWO_RULES : goal.returns-then-entry-ge-TWO_RULES
unfolding entry_refusal refusal_of
returns-then-entry-ge-TWO_RULES c = rw (ne_eqb _ _ c.if-entry-eq-NO_RULE.false, le-leb _ _ c.if-entry-ge-TWO_RULES.true)

pub returns : goal.returns
unfolding entry_refusal
returns c = rw (ne_eqb _ _ c.if-entry-eq-NO_RULE.false, lt-leb _ _ c.if-entry-ge-TWO_RULES.false)
