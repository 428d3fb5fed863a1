-- `chart::read_rest`: the names, the rules' names and the rules, fault by fault.
use mathlib.Core.Path.{refl}
use Rattle.text.proofs.Reading.{named_read, named_other}
use Rattle.model.specs.Chart.{rule_names}
use Rattle.chart.proofs.Whole.{rest_unnamed, rest_untitled, rest_read}
use Rattle.chart.proofs.read_rest.Goals as goal

pub returns-in_default : goal.returns-in_default
returns-in_default c = rest_unnamed c.name_block.ensures c.in_default.is c.requires

pub returns-in_default-name_line : goal.returns-in_default-name_line
returns-in_default-name_line c =
    rest_untitled c.name_block.ensures c.in-Some.is (named_other rule_names _ _ refl c.name_line.ensures c.in_default-name_line.is) c.requires

pub returns : goal.returns
returns c = rest_read c.name_block.ensures c.in-Some.is (named_read refl c.name_line.ensures c.in-Some-name_line.is) c.rule_block.ensures
