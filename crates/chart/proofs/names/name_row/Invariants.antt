-- `names::name_row`: what is left of the line decides as the whole does.
use Rattle.chart.proofs.NameLines.{NameLeft}
use Rattle.chart.proofs.names.name_row.Given as goal

abbrev pub invariant-loop-e : goal.invariant-loop-e
invariant-loop-e l = NameLeft l.text l.at l.e
