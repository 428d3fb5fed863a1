-- `read::field_end` meets its contract: the place where the field ends stays the same as the loop goes on in it. Assumes nothing.
use mathlib.Core.Path.{sym, ◌∙◌}
use native.Mathlib.Omega.{arith}
use Rattle.text.proofs.ReadingSteps.{count_end, field_stops, field_goes, field_ends}
use Rattle.text.proofs.read.field_end.Goals as goal

pub returns-then-separates : goal.returns-then-separates
returns-then-separates c = sym (field_stops _ _ (omega arith) (sym c.separates.ensures ∙ c.if-separates.true)) ∙ c.loop-e.invariant

pub loop-e-preserved : goal.loop-e-preserved
loop-e-preserved c = sym (field_goes _ _ (omega arith) (sym c.separates.ensures ∙ c.if-separates.false)) ∙ c.loop-e.invariant

pub returns : goal.returns
returns c =
    let s = c.args.text.now in
    c.max.ensures
    ∙ count_end s c.args.at c.loop-e.e _ c.loop-e.auto.e-end c.loop-e-test.false (field_ends s c.args.at) (λ h. sym c.loop-e.invariant ∙ field_ends s c.loop-e.e c.loop-e-test.false)
