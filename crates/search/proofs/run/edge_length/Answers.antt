use mathlib.Core.Path.{ap, sym, ◌∙◌}
use Prim.Native.Nat.{ℕ}
use lib.IntN.{pos, neg_ℤ}
use mir.Facts.{to_z-of_z}
use mir.Syntax.{w32}
use Rattle.model.specs.Graph.{edge_depth, edge_length}
use Rattle.search.specs.Asks.{LengthIs}
use Rattle.search.proofs.run.edge_length.Goals as goal

pub returns : goal.returns
unfolding LengthIs edge_length edge_depth
returns c = λ g e m. to_z-of_z {w = w32} (record { sfits = c.negated.type_inv }) ∙ c.negated.ensures ∙ ap (λ (n : ℕ). neg_ℤ (pos n)) (sym m)
