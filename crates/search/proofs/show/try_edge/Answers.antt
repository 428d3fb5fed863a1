-- `try_edge` meets its contract.
use Prim.Native.Nat.{◌<◌}
use native.Mathlib.Omega.{arith}
use Rattle.model.specs.Case.{most_vertices}
use Rattle.search.specs.Show.{Tried}
use Rattle.search.proofs.Frames.{kept_same, kept_more, kept_set, to_there}
use Rattle.search.proofs.Search.{try_mark, try_skip, try_room, try_grow}
use Rattle.search.proofs.show.try_edge.Goals as goal

pub load_below-v-requires : goal.load_below-v-requires
load_below-v-requires c = let s = c.requires in (omega (arith, s.below, s.laid.within.edges, s.laid.long), to_there _ _ _ s.laid s.below)

pub load_below-found-requires : goal.load_below-found-requires
load_below-found-requires c =
    let s = c.requires in
    (omega (arith, s.laid.long, c.load_below-v.ensures.1), try_mark _ _ _ _ _ _ s.laid s.scanning s.below s.leaves _ c.load_below-v.ensures.0)

pub returns-then-found-ne-NOT_FOUND : goal.returns-then-found-ne-NOT_FOUND
unfolding Tried
returns-then-found-ne-NOT_FOUND c = (kept_same _ _, λ q h v d s b l. try_skip q h v _ _ _ d s b l _ c.load_below-v.ensures.0 _ c.load_below-found.ensures.0 c.if-found-ne-NOT_FOUND.true)

pub overflow_add-tail : goal.overflow_add-tail
overflow_add-tail c =
    let room : c.args.tail < most_vertices = let s = c.requires in
    let a = c.load_below-v.ensures.0 in
    omega (arith, try_room _ _ _ _ _ _ s.laid s.scanning s.below s.leaves _ a _ c.load_below-found.ensures.0 c.if-found-ne-NOT_FOUND.false, s.laid.within.vertices) in
    omega (arith, room)

pub store_number-requires-2 : goal.store_number-requires-2
store_number-requires-2 c =
    let room : c.args.tail < most_vertices = let s = c.requires in
    let a = c.load_below-v.ensures.0 in
    omega (arith, try_room _ _ _ _ _ _ s.laid s.scanning s.below s.leaves _ a _ c.load_below-found.ensures.0 c.if-found-ne-NOT_FOUND.false, s.laid.within.vertices) in
    let s = c.requires in
    (omega (arith, room, s.laid.long, c.store_number.auto.work), omega (arith, c.load_below-v.ensures.1))

pub overflow_add-result : goal.overflow_add-result
overflow_add-result c =
    let room : c.args.tail < most_vertices = let s = c.requires in
    let a = c.load_below-v.ensures.0 in
    omega (arith, try_room _ _ _ _ _ _ s.laid s.scanning s.below s.leaves _ a _ c.load_below-found.ensures.0 c.if-found-ne-NOT_FOUND.false, s.laid.within.vertices) in
    omega (arith, room)

pub returns : goal.returns
unfolding Tried
returns c =
    let z = c.if-found-ne-NOT_FOUND.false in
    rw (c.store_number-2.ensures, c.store_number.ensures)
    (kept_more _ _ _ _ (kept_set _ _ _ _ (omega arith)) (kept_set _ _ _ _ (omega arith)), λ q h v d s b l. try_grow q h v _ _ _ d s b l _ c.load_below-v.ensures.0 _ c.load_below-found.ensures.0 z)
