-- `body::title_fits` meets its contract. Assumes nothing.
use mathlib.Core.Path.{◌∙◌}
use Rattle.claim.proofs.BodyCode.{title_long, title_short, some_feed}
use Rattle.claim.proofs.body.title_fits.Goals as goal

pub returns-then-e-a-gt-LONGEST_TITLE : goal.returns-then-e-a-gt-LONGEST_TITLE
returns-then-e-a-gt-LONGEST_TITLE c = title_long _ _ _ c.requires.a_le_e c.requires.e_in_bounds c.if-e-a-gt-LONGEST_TITLE.true

pub returns : goal.returns
returns c = title_short _ _ _ c.requires.a_le_e c.requires.e_in_bounds c.if-e-a-gt-LONGEST_TITLE.false _ (c.contains.ensures.value ∙ some_feed _)
