-- `read::same` meets its contract. Assumes nothing.
use mathlib.Core.Path.{◌∙◌}
use Rattle.text.proofs.Lines.{pointwise_equal}
use Rattle.text.proofs.read.same.Goals as goal

pub returns : goal.returns
returns c = c.eq.ensures ∙ pointwise_equal _ _
