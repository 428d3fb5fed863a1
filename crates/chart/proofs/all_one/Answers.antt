-- `chart::all_one`: every entry is between the least and the most.
use mathlib.Core.Path.{refl}
use mathlib.Core.Bool.{false}
use native.Mathlib.Omega.{arith}
use borrow.Author.Tests.{ltb-true}
use Rattle.text.proofs.Tests.{clash}
use Rattle.chart.proofs.BadPairs.{extremes_start, extremes_more, extremes_end}
use Rattle.chart.proofs.all_one.Goals as goal

pub loop-entry-init : goal.loop-entry-init
loop-entry-init c = extremes_start _ _ _ _

pub loop-entry-preserved : goal.loop-entry-preserved
loop-entry-preserved c = extremes_more c.loop-entry.invariant (omega arith, omega arith) (omega arith, omega arith)

pub returns-then-least-lt-ONE_RULE : goal.returns-then-least-lt-ONE_RULE
returns-then-least-lt-ONE_RULE c = λ e. clash false e refl

pub returns : goal.returns
returns c = λ e. extremes_end c.loop-entry.invariant c.loop-entry-test.false c.if-least-lt-ONE_RULE.false (ltb-true _ _ e)
