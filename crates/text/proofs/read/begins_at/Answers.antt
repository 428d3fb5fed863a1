-- `read::begins_at` meets its contract. Assumes nothing.
use mathlib.Core.Path.{◌∙◌}
use Rattle.text.proofs.Lines.{starts_begins}
use Rattle.text.proofs.read.begins_at.Goals as goal

pub returns : goal.returns
returns c = c.starts_with.ensures.value ∙ starts_begins _ _ _ c.min.ensures
