-- `page::write_bits`: the flags below i are still to be written.
use mathlib.Core.Path.{refl, ◌∙◌}
use Rattle.text.proofs.Chains.{puts, still_start, still_step, still_end}
use Rattle.chartcheck.proofs.Printing.{bits_more, bits_none}
use Rattle.chartcheck.proofs.page.write_bits.Goals as goal

pub loop-i-init : goal.loop-i-init
loop-i-init c = (refl, still_start _ _)

pub loop-i-preserved : goal.loop-i-preserved
loop-i-preserved c = (c.byte.ensures.same ∙ c.loop-i.invariant.0, still_step c.loop-i.invariant.1 (bits_more _ _ c.loop-i-test.true c.bit_digit.ensures) (puts c.byte.ensures.writes))

pub returns-clause-same : goal.returns-clause-same
returns-clause-same c = c.loop-i.invariant.0

pub returns-clause-puts : goal.returns-clause-puts
returns-clause-puts c = still_end c.loop-i.invariant.1 (bits_none _ _ c.loop-i-test.false)
