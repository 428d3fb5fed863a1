-- `acts::list_acts`: what is still to read gives the whole; each act takes the place past it.
use Rattle.std.proofs.lemmas.List.{set-get_or}
use Rattle.looplist.proofs.Listing.{lists_end, lists_all, lists_full, lists_none, lists_more}
use Rattle.looplist.proofs.acts.list_acts.Goals as goal

pub returns-then-text-at : goal.returns-then-text-at
returns-then-text-at c = rw set-get_or (lists_end c.loop-count.invariant c.if-text-at.true)

pub returns-in_default : goal.returns-in_default
returns-in_default c = rw set-get_or (lists_none c.loop-count.invariant c.if-text-at.false c.loop-count-test.true c.numbers_row.ensures c.in_default.is)

pub loop-count-preserved : goal.loop-count-preserved
loop-count-preserved c = lists_more c.loop-count.invariant c.if-text-at.false c.loop-count-test.true _ c.numbers_row.ensures c.in-Some.is

pub returns-then-at-text : goal.returns-then-at-text
returns-then-at-text c = lists_full c.loop-count.invariant c.if-at-text.true c.loop-count-test.false

pub returns : goal.returns
returns c = lists_all c.loop-count.invariant c.if-at-text.false c.loop-count-test.false
