-- `names::name_block`: what is left of the block decides as the whole does.
use Rattle.chart.proofs.NameLines.{NamesLeft}
use Rattle.chart.proofs.names.name_block.Given as goal

abbrev pub invariant-loop : goal.invariant-loop
invariant-loop l = NamesLeft l.text l.at l.modes l.here l.counter
