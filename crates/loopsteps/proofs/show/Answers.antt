-- `show`: the listing where nothing is refused, else the lines of the refusal.
use mathlib.Core.Path.{◌∙◌}
use Rattle.loopsteps.proofs.Printing.{shows}
use Rattle.loopsteps.proofs.show.Goals as goal

pub returns : goal.returns
returns c = c.written.ensures ∙ shows _ _ _ _ _ _ c.list_steps-listed.ensures c.requires.1 c.finish_page.ensures.finishes c.requires.0
