-- `show`: the lines of what the check returns.
use mathlib.Core.Path.{◌∙◌}
use Rattle.chartcheck.proofs.Printing.{charted_shows}
use Rattle.chartcheck.proofs.show.Goals as goal

pub returns : goal.returns
returns c = c.written.ensures ∙ charted_shows _ c.check_chart.ensures c.write_charted.ensures.puts c.requires.0 c.requires.1
