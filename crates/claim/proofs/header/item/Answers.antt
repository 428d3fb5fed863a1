-- `header::item` meets its contract. Assumes nothing.
use mathlib.Core.Path.{sym, ◌∙◌}
use Rattle.claim.proofs.HeaderLoop.{states_first, states_again, start_first, start_again, propositions_first, propositions_again, acceptance_first, acceptance_again, skipped_read}
use Rattle.claim.proofs.header.item.Goals as goal

pub returns-then-is_some : goal.returns-then-is_some
returns-then-is_some c = states_again c.args.text.now c.args.kind c.args.at c.args.g c.in-States.is (sym c.is_some.ensures ∙ c.if-is_some.true)

pub returns-then-is_some-2 : goal.returns-then-is_some-2
returns-then-is_some-2 c = start_again c.args.text.now c.args.kind c.args.at c.args.g c.in-Start.is (sym c.is_some-in-Start.ensures ∙ c.if-is_some-2.true)

pub returns-then-is_some-3 : goal.returns-then-is_some-3
returns-then-is_some-3 c = propositions_again c.args.text.now c.args.kind c.args.at c.args.g c.in-Propositions.is (sym c.is_some-in-Propositions.ensures ∙ c.if-is_some-3.true)

pub returns-then-g : goal.returns-then-g
returns-then-g c = acceptance_again c.args.text.now c.args.kind c.args.at c.args.g c.in-Acceptance.is c.if-g.true

pub states_item-requires : goal.states_item-requires
states_item-requires c = sym c.is_some.ensures ∙ c.if-is_some.false

pub start_item-requires : goal.start_item-requires
start_item-requires c = sym c.is_some-in-Start.ensures ∙ c.if-is_some-2.false

pub propositions_item-requires : goal.propositions_item-requires
propositions_item-requires c = sym c.is_some-in-Propositions.ensures ∙ c.if-is_some-3.false

pub returns-else-is_some : goal.returns-else-is_some
returns-else-is_some c = states_first c.args.text.now c.args.kind c.args.at c.args.g c.in-States.is (sym c.is_some.ensures ∙ c.if-is_some.false) c.states_item.result c.states_item.ensures

pub returns-else-is_some-2 : goal.returns-else-is_some-2
returns-else-is_some-2 c = start_first c.args.text.now c.args.kind c.args.at c.args.g c.in-Start.is (sym c.is_some-in-Start.ensures ∙ c.if-is_some-2.false) c.start_item.result c.start_item.ensures

pub returns-else-is_some-3 : goal.returns-else-is_some-3
returns-else-is_some-3 c = propositions_first c.args.text.now c.args.kind c.args.at c.args.g c.in-Propositions.is (sym c.is_some-in-Propositions.ensures ∙ c.if-is_some-3.false) c.propositions_item.result c.propositions_item.ensures

pub returns-else-g : goal.returns-else-g
returns-else-g c = acceptance_first c.args.text.now c.args.kind c.args.at c.args.g c.in-Acceptance.is c.if-g.false c.acceptance_item.result c.acceptance_item.ensures

pub returns-in-Skipped : goal.returns-in-Skipped
returns-in-Skipped c = skipped_read c.args.text.now c.args.kind c.args.at c.args.g c.in-Skipped.is c.skipped_end.result c.skipped_end.ensures
