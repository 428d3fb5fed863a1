-- `write_steps` meets its contract: at each turn the lines from place `here` of the answer on are left.
use lib.ListN.{length, drop}
use Rattle.text.specs.Lines.{lines}
use Rattle.product.specs.Names.{named_row}
use Rattle.product.proofs.StepRows.{StepsLeft}
use Rattle.product.proofs.steps.Names.write_steps.Given as goal

abbrev pub invariant-loop-here : goal.invariant-loop-here
invariant-loop-here l = StepsLeft (named_row l.self) l.answer l.at l.v l.edges l.here l.w l.initial.page l.page

abbrev pub decreases-loop-here : goal.decreases-loop-here
decreases-loop-here l = length (lines (drop l.here l.answer))
