-- `parent_edge` meets its contract.
use native.Mathlib.Omega.{arith}
use Rattle.search.specs.Show.{ParentIs}
use Rattle.search.proofs.Cycles.{chained_below, parent_there, parent_is}
use Rattle.search.proofs.show.parent_edge.Goals as goal

pub overflow_add-v : goal.overflow_add-v
overflow_add-v c = let s = c.requires in omega (arith, chained_below _ _ _ _ s.lies s.chained, s.lies.laid.within.vertices)

pub load_below-code-requires : goal.load_below-code-requires
load_below-code-requires c =
    let s = c.requires in
    (omega (arith, chained_below _ _ _ _ s.lies s.chained, s.lies.laid.within.vertices, s.lies.laid.long), parent_there _ _ _ _ s.lies s.chained)

pub overflow_sub-result : goal.overflow_sub-result
overflow_sub-result c = let s = c.requires in omega (arith, (parent_is _ _ _ _ s.lies s.chained _ c.load_below-code.ensures.0).0)

pub returns : goal.returns
unfolding ParentIs
returns c = λ q ps l f. (parent_is q ps _ _ l f _ c.load_below-code.ensures.0).1
