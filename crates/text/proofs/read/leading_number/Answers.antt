-- `read::leading_number` meets its contract. Assumes nothing.
use mathlib.Core.Path.{◌∙◌}
use Rattle.text.proofs.ReadingRows.{leading_number}
use Rattle.text.proofs.read.leading_number.Goals as goal

pub returns : goal.returns
returns c = c.number_before.ensures ∙ leading_number _ _
