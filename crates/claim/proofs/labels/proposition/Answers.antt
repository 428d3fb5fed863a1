-- `labels::proposition` meets its contract. Assumes nothing.
use mathlib.Core.Path.{refl}
use borrow.Author.Tests.{lt-ltb, le-ltb}
use Rattle.claim.proofs.labels.proposition.Goals as goal

pub returns-then-i-count : goal.returns-then-i-count
returns-then-i-count c = (lt-ltb _ _ c.if-i-count.true, c.flagged.ensures, refl)

pub returns : goal.returns
returns c = (le-ltb _ _ c.if-i-count.false, refl)
