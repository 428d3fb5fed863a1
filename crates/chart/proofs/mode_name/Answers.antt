-- `chart::mode_name`: what is left of the way leads where the whole does.
use Rattle.chart.proofs.NameLines.{lines_start, lines_more, lines_end, lines_out}
use Rattle.chart.proofs.mode_name.Goals as goal

pub loop-init : goal.loop-init
loop-init c = lines_start _ _ _ c.past_head-at.ensures

pub returns-then-text-at : goal.returns-then-text-at
returns-then-text-at c = rw (lines_out c.loop.invariant c.if-text-at.true) at c.field.ensures

pub loop-preserved : goal.loop-preserved
loop-preserved c = lines_more c.loop.invariant c.loop-test.true c.next_line-at.ensures

pub returns : goal.returns
returns c = rw (lines_end c.loop.invariant c.loop-test.false) at c.field-2.ensures
