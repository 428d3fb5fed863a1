-- `read::numbers_row` meets its contract: the rest of the line begins at the place. Assumes nothing.
use Rattle.text.proofs.Reading.{Under}
use Rattle.text.proofs.read.numbers_row.Given as goal

abbrev pub invariant-loop-i : goal.invariant-loop-i
invariant-loop-i g l = Under g.row.N l.text l.at l.i l.numbers l.here
