-- `chart::good_modes`: the pairs of one mode more.
use native.Mathlib.Omega.{arith}
use Rattle.chart.proofs.BadPairs.{mode_more}
use Rattle.chart.proofs.good_modes.Goals as goal

pub loop-q-preserved : goal.loop-q-preserved
loop-q-preserved c = mode_more c.loop-q.invariant c.loop-q-test.true c.requires (omega arith) (c.all_one.ensures c.if-not-all_one.false)
