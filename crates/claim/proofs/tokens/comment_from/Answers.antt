-- `tokens::comment_from` meets its contract. Assumes nothing.
use mathlib.Core.Path.{refl, ◌∙◌}
use borrow.Author.Tests.{le-ltb}
use native.Mathlib.Omega.{arith}
use Rattle.claim.proofs.Lexing.{comment_by, comment_torn}
use Rattle.claim.proofs.tokens.comment_from.Goals as goal
use Rattle.claim.proofs.tokens.comment_from.Goals.{then-e-min, else-e-min}

pub returns : goal.returns
returns c =
    rw c.paired.ensures (elim c.if-e-min.branch [
      | then-e-min w ↦ rw w.fits-is (comment_by _ _ _ _ (omega (arith, w.if-e-min)) _ refl)
      | else-e-min w ↦ rw (w.fits-is ∙ le-ltb _ _ w.if-e-min.false) (comment_torn _ _ _ _ (omega (arith, w.if-e-min)))
    ])
