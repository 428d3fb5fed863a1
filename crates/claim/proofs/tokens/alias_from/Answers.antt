-- `tokens::alias_from` meets its contract. Assumes nothing.
use mathlib.Core.Path.{sym, ◌∙◌}
use borrow.Author.Tests.{le-ltb}
use native.Mathlib.Omega.{arith}
use Rattle.claim.proofs.Lexing.{alias_by, alias_torn}
use Rattle.claim.proofs.tokens.alias_from.Goals as goal
use Rattle.claim.proofs.tokens.alias_from.Goals.{then-e-min, else-e-min}

pub returns : goal.returns
returns c =
    rw c.paired.ensures (elim c.if-e-min.branch [
      | then-e-min w ↦ rw w.fits-is (alias_by _ _ _ _ (omega (arith, w.if-e-min)) _ (sym w.name_byte-fits.ensures))
      | else-e-min w ↦ rw (w.fits-is ∙ le-ltb _ _ w.if-e-min.false) (alias_torn _ _ _ _ (omega (arith, w.if-e-min)))
    ])
