-- `chart::all_one`: every entry is between the least and the most.
use Rattle.chart.proofs.BadPairs.{Extremes}
use Rattle.chart.proofs.all_one.Given as goal

abbrev pub invariant-loop-entry : goal.invariant-loop-entry
invariant-loop-entry l = Extremes l.entries 0 l.entry-index l.least l.most
