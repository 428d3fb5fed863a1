-- `read::next_line` meets its contract: the place past the line stays the same as the loop goes on in it. Assumes nothing.
use mathlib.Core.Path.{sym, ◌∙◌}
use native.Mathlib.Omega.{arith}
use Rattle.text.proofs.ReadingSteps.{count_end, past_feed, past_byte, past_end}
use Rattle.text.proofs.read.next_line.Goals as goal

pub returns-then-text-e-eq-LINE_FEED : goal.returns-then-text-e-eq-LINE_FEED
returns-then-text-e-eq-LINE_FEED c = sym (past_feed _ _ (omega arith) c.if-text-e-eq-LINE_FEED.true) ∙ c.loop-e.invariant

pub loop-e-preserved : goal.loop-e-preserved
loop-e-preserved c = sym (past_byte _ _ (omega arith) c.if-text-e-eq-LINE_FEED.false) ∙ c.loop-e.invariant

pub returns : goal.returns
returns c =
    let s = c.args.text.now in
    c.max.ensures
    ∙ count_end s c.args.at c.loop-e.e _ c.loop-e.auto.e-end c.loop-e-test.false (past_end s c.args.at) (λ h. sym c.loop-e.invariant ∙ past_end s c.loop-e.e c.loop-e-test.false)
