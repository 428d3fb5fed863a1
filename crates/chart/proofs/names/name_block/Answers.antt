-- `names::name_block`: what is left of the block decides as the whole does.
use mathlib.Core.Path.{◌∙◌}
use Rattle.chart.proofs.NameLines.{names_start, names_end, names_wrong, names_more}
use Rattle.chart.proofs.names.name_block.Goals as goal

pub loop-init : goal.loop-init
loop-init c = names_start _ _ _

pub returns-in_err-here : goal.returns-in_err-here
returns-in_err-here c = c.from_residual.ensures ∙ names_wrong c.loop.invariant c.loop-test.true c.name_row.ensures c.in_err-here.was

pub loop-preserved : goal.loop-preserved
loop-preserved c = names_more c.loop.invariant c.loop-test.true c.name_row.ensures c.in_ok-here.was

pub returns : goal.returns
returns c = names_end c.loop.invariant c.loop-test.false
