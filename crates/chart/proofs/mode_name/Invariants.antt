-- `chart::mode_name`: what is left of the way leads where the whole does.
use Rattle.text.specs.Reading.{skip}
use Rattle.chart.proofs.NameLines.{LinesLeft}
use Rattle.chart.proofs.mode_name.Given as goal

abbrev pub invariant-loop : goal.invariant-loop
invariant-loop l = LinesLeft l.text (skip 3 l.text 0) l.mode l.at l.counter
