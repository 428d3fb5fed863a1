-- `show`: the case file where nothing is refused, else the lines of the refusal.
use mathlib.Core.Path.{◌∙◌}
use Rattle.casebuild.proofs.Printing.{shows}
use Rattle.casebuild.proofs.show.Goals as goal

pub returns : goal.returns
returns c = c.written.ensures ∙ shows _ _ _ _ _ _ c.build_case-built.ensures c.requires.1 c.finish_page.ensures.finishes c.requires.0
