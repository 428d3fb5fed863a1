-- `fill_places` meets its contract: at each turn so many places are done.
use Rattle.product.proofs.StepRows.{Placing}
use Rattle.product.proofs.names.fill_places.Given as goal

abbrev pub invariant-loop-place : goal.invariant-loop-place
invariant-loop-place l = Placing l.chart l.places l.at l.place-index
