-- `check`: the line of what the check says.
use mathlib.Core.Path.{◌∙◌}
use Rattle.loopcheck.proofs.Printing.{shows}
use Rattle.loopcheck.proofs.check.Goals as goal

pub returns : goal.returns
returns c = c.written.ensures ∙ shows c.check_answer.ensures c.write_checked.ensures.puts c.requires.0 c.requires.1
