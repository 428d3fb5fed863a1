-- `complaint::number_between`: words and number have room in the line.
use mathlib.Core.Path.{◌∙◌}
use Rattle.looplist.proofs.Printing.{between_shows}
use Rattle.looplist.proofs.complaint.number_between.Goals as goal

pub returns : goal.returns
returns c = c.written.ensures ∙ between_shows c.args.before.now c.args.number c.args.after.now c.write_between.ensures.chain c.requires.0 c.requires.1
