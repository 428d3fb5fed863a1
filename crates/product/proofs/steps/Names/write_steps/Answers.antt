-- `write_steps` meets its contract: at each turn the lines from place `here` of the answer on are left.
use native.Mathlib.Omega.{arith}
use Rattle.text.proofs.Reading.{row_read, row_fault}
use Rattle.product.proofs.StepRows.{steps_torn, steps_on, steps_less, steps_end}
use Rattle.product.proofs.steps.Names.write_steps.Goals as goal

pub returns-in_default-clause-lines : goal.returns-in_default-clause-lines
returns-in_default-clause-lines c = steps_torn c.loop-here.invariant c.loop-here-test.true (row_fault 1 _ _ c.numbers_row.ensures c.in_default.is)

pub loop-here-smaller : goal.loop-here-smaller
loop-here-smaller c = steps_less c.loop-here-test.true (row_read 1 c.numbers_row.ensures c.in-Some.is)

pub loop-here-preserved : goal.loop-here-preserved
loop-here-preserved c = steps_on c.loop-here.invariant c.loop-here-test.true (row_read 1 c.numbers_row.ensures c.in-Some.is) c.write_step.ensures.line c.write_step.ensures.same c.end_of-w.ensures

pub returns-clause-lines : goal.returns-clause-lines
returns-clause-lines c = steps_end c.loop-here.invariant (omega arith)
