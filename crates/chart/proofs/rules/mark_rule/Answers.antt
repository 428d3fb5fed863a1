-- `rules::mark_rule`: the entries of the combinations below f are marked.
use mathlib.Core.Path.{ap, ◌∙◌}
use native.Mathlib.Omega.{arith}
use Rattle.chart.specs.Pairs.{after_rule}
use Rattle.chart.proofs.Entries.{added_most, marking_start, part_more, marking_end}
use Rattle.chart.proofs.rules.mark_rule.Goals as goal

pub loop-f-init : goal.loop-f-init
loop-f-init c = marking_start _ _ _ _ _

pub after_rule-requires : goal.after_rule-requires
after_rule-requires c = omega (arith, c.added.ensures, added_most c.loop-f.f c.args.care c.args.value c.args.worth, c.requires.1)

pub loop-f-preserved : goal.loop-f-preserved
loop-f-preserved c = part_more c.loop-f.invariant c.loop-f-test.true _ (c.after_rule.ensures ∙ ap (after_rule _) c.added.ensures)

pub returns : goal.returns
returns c = marking_end c.loop-f.invariant (omega arith)
