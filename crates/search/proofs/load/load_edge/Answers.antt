-- `search::load::load_edge`: two stores and, if the edge leaves a vertex that has no first edge yet, one fill.
use native.Mathlib.Omega.{arith}
use Rattle.search.proofs.Loads.{pair_kept, pair_new}
use Rattle.search.proofs.load.load_edge.Goals as goal

pub returns-then-from-next : goal.returns-then-from-next
returns-then-from-next c = rw (c.store_number-2.ensures, c.store_number.ensures) (pair_kept _ _ _ _ _ c.if-from-next.true)

pub returns : goal.returns
returns c = pair_new _ _ _ _ _ _ (omega (arith, c.if-from-next.false)) (rw (c.store_number-2.ensures, c.store_number.ensures) at c.fill.ensures)
