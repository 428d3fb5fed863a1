-- `names::name_row`: what is left of the line decides as the whole does.
use mathlib.Core.Path.{sym, ◌∙◌}
use native.Mathlib.Omega.{arith}
use Rattle.chart.proofs.NameLines.{alphanumeric_ascii, name_more, name_torn, name_wrong, name_empty, name_long, name_whole}
use Rattle.chart.proofs.names.name_row.Goals as goal
use Rattle.chart.proofs.names.name_row.Goals.{then-e-at-via-then-e-at, then-e-at-via-else-e-at+then-e-at-gt-LONGEST_NAME}

pub returns-then-e-at : goal.returns-then-e-at
returns-then-e-at c =
    elim c.then-e-at.branch [
      | then-e-at-via-then-e-at w ↦ name_empty c.loop-e.invariant (omega arith) c.if-b-eq10.true w.if-e-at.true
      | then-e-at-via-else-e-at+then-e-at-gt-LONGEST_NAME w ↦ name_long c.loop-e.invariant (omega arith) c.if-b-eq10.true w.if-e-at-gt-LONGEST_NAME.true
    ]

pub returns-then-b-eq10 : goal.returns-then-b-eq10
returns-then-b-eq10 c = name_whole c.loop-e.invariant (omega arith) c.if-b-eq10.true c.if-e-at.false c.if-e-at-gt-LONGEST_NAME.false

pub returns-then-not-is_ascii_alphanumeric : goal.returns-then-not-is_ascii_alphanumeric
returns-then-not-is_ascii_alphanumeric c =
    name_wrong c.loop-e.invariant (omega arith) c.if-b-eq10.false
    (alphanumeric_ascii _ ∙ sym c.is_ascii_alphanumeric.ensures.value ∙ c.if-not-is_ascii_alphanumeric.true)

pub loop-e-preserved : goal.loop-e-preserved
loop-e-preserved c =
    name_more c.loop-e.invariant (omega arith) c.if-b-eq10.false
    (alphanumeric_ascii _ ∙ sym c.is_ascii_alphanumeric.ensures.value ∙ c.if-not-is_ascii_alphanumeric.false)

pub returns : goal.returns
returns c = name_torn c.loop-e.invariant c.loop-e-test.false
