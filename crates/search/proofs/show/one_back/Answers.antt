-- `one_back` meets its contract.
use mathlib.Core.Path.{sym, ◌∙◌}
use native.Mathlib.Omega.{arith}
use Rattle.search.specs.Show.{ParentIs, OneBackIs}
use Rattle.search.proofs.Frames.{from_there, from_is}
use Rattle.search.proofs.Cycles.{one_back_some}
use Rattle.search.proofs.show.one_back.Goals as goal

pub overflow_add-e : goal.overflow_add-e
unfolding ParentIs
overflow_add-e c =
    let s = c.requires in
    omega (arith, s.lies.real _ _ (c.parent_edge-e.ensures _ _ s.lies s.chained), s.lies.laid.within.edges)

pub load_below-requires : goal.load_below-requires
unfolding ParentIs
load_below-requires c =
    let s = c.requires in
    let h = s.lies.real _ _ (c.parent_edge-e.ensures _ _ s.lies s.chained) in
    (omega (arith, h, s.lies.laid.within.edges, s.lies.laid.long), from_there _ _ _ s.lies.laid h)

pub returns : goal.returns
unfolding ParentIs OneBackIs
returns c =
    λ q ps l f.
    let p = c.parent_edge-e.ensures q ps l f in
    from_is q _ _ l.laid (l.real _ _ p) _ c.load_below.ensures.0 ∙ sym (one_back_some q.graph ps _ _ p)
