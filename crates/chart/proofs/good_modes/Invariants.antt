-- `chart::good_modes`: the pairs of one mode more.
use Prim.Native.Nat.{◌*◌}
use Rattle.chart.specs.Pairs.{GoodFront}
use Rattle.chart.proofs.good_modes.Given as goal

abbrev pub invariant-loop-q : goal.invariant-loop-q
invariant-loop-q l = GoodFront l.pairs (l.extent.modes * l.extent.count) (l.q * l.extent.count)
