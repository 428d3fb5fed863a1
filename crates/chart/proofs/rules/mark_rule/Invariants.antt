-- `rules::mark_rule`: the entries of the combinations below f are marked.
use Rattle.chart.specs.Pairs.{RuleMarked}
use Rattle.chart.proofs.rules.mark_rule.Given as goal

abbrev pub invariant-loop-f : goal.invariant-loop-f
invariant-loop-f l = RuleMarked 0 l.f l.care l.value l.worth l.initial.entries l.entries
