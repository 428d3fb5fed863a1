-- `chart::bad_pair`: the pairs before i are good, so that what is left decides as the whole does.
use Prim.Native.Nat.{◌*◌}
use Rattle.chart.proofs.BadPairs.{GoodSoFar}
use Rattle.chart.proofs.bad_pair.Given as goal

abbrev pub invariant-loop-i : goal.invariant-loop-i
invariant-loop-i l = GoodSoFar l.pairs (l.extent.modes * l.extent.count) l.extent.count l.i
