-- `rules::rule_block`: what is left of the rules decides as the whole does, and the rules so far stand in the table.
use Prim.Native.Nat.{◌-◌}
use Rattle.model.specs.Chart.{most_rules}
use Rattle.chart.proofs.RuleLines.{RulesLeft}
use Rattle.chart.proofs.rules.rule_block.Given as goal

abbrev pub invariant-loop-here : goal.invariant-loop-here
invariant-loop-here l = RulesLeft l.text l.at l.extent.modes l.extent.count l.pairs l.here l.many

abbrev pub decreases-loop-here : goal.decreases-loop-here
decreases-loop-here l = most_rules - l.many
