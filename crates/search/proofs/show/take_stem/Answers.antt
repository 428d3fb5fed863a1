-- `take_stem` meets its contract. The invariant: the walk to the marked vertex, and the edges that are written, make the stem.
use Prim.Native.Nat.{◌<◌}
use native.Mathlib.Omega.{arith}
use Rattle.search.specs.Cells.{stem_at}
use Rattle.search.specs.Show.{Stemming, StemTaken}
use Rattle.search.proofs.Frames.{kept_same, kept_more, kept_set, from_there}
use Rattle.search.proofs.Search.{grown_mark, stem_start, stem_edge, stem_room, stem_mark, stem_step, stem_done}
use Rattle.search.proofs.show.take_stem.Goals as goal

pub overflow_add-goal : goal.overflow_add-goal
overflow_add-goal c = let s = c.requires in omega (arith, (grown_mark _ _ _ s.laid s.grown).0)

pub load_below-found-requires : goal.load_below-found-requires
load_below-found-requires c =
    let s = c.requires in
    let m = grown_mark _ _ _ s.laid s.grown in
    (omega (arith, m.0, s.laid.long), m.1)

pub loop-found-init : goal.loop-found-init
loop-found-init c = (kept_same _ _, λ q d r. stem_start q _ _ d r _ c.load_below-found.ensures.0)

pub overflow_add-e : goal.overflow_add-e
overflow_add-e c =
    let here : let s = c.requires in Stemming s.case c.args.goal c.loop-found.found c.loop-found.at c.loop-found.work = let s = c.requires in c.loop-found.invariant.1 s.case s.laid s.grown in
    let s = here in omega (arith, stem_edge _ _ _ _ _ s c.loop-found-test.true, s.laid.within.edges)

pub load_below-v-requires : goal.load_below-v-requires
load_below-v-requires c =
    let here : let s = c.requires in Stemming s.case c.args.goal c.loop-found.found c.loop-found.at c.loop-found.work = let s = c.requires in c.loop-found.invariant.1 s.case s.laid s.grown in
    let s = here in
    let b = stem_edge _ _ _ _ _ s c.loop-found-test.true in
    (omega (arith, b, s.laid.within.edges, s.laid.long), from_there _ _ _ s.laid b)

pub load_below-found-requires-in-loop-found : goal.load_below-found-requires-in-loop-found
load_below-found-requires-in-loop-found c =
    let here : let s = c.requires in Stemming s.case c.args.goal c.loop-found.found c.loop-found.at c.loop-found.work = let s = c.requires in c.loop-found.invariant.1 s.case s.laid s.grown in
    let s = here in
    (omega (arith, c.load_below-v.ensures.1, s.laid.long), stem_mark _ _ _ _ _ s c.loop-found-test.true _ c.load_below-v.ensures.0)

pub overflow_sub-at : goal.overflow_sub-at
overflow_sub-at c =
    let here : let s = c.requires in Stemming s.case c.args.goal c.loop-found.found c.loop-found.at c.loop-found.work = let s = c.requires in c.loop-found.invariant.1 s.case s.laid s.grown in
    let room : stem_at < c.loop-found.at = stem_room _ _ _ _ _ here c.loop-found-test.true in
    omega (arith, room)

pub store_number-requires : goal.store_number-requires
store_number-requires c =
    let here : let s = c.requires in Stemming s.case c.args.goal c.loop-found.found c.loop-found.at c.loop-found.work = let s = c.requires in c.loop-found.invariant.1 s.case s.laid s.grown in
    let room : stem_at < c.loop-found.at = stem_room _ _ _ _ _ here c.loop-found-test.true in
    let s = here in
    (omega (arith, room, s.written.ends, s.laid.long), omega (arith, stem_edge _ _ _ _ _ s c.loop-found-test.true, s.laid.within.edges))

pub loop-found-smaller : goal.loop-found-smaller
loop-found-smaller c =
    let here : let s = c.requires in Stemming s.case c.args.goal c.loop-found.found c.loop-found.at c.loop-found.work = let s = c.requires in c.loop-found.invariant.1 s.case s.laid s.grown in
    let room : stem_at < c.loop-found.at = stem_room _ _ _ _ _ here c.loop-found-test.true in
    omega (arith, room)

pub loop-found-preserved : goal.loop-found-preserved
loop-found-preserved c =
    let here : let s = c.requires in Stemming s.case c.args.goal c.loop-found.found c.loop-found.at c.loop-found.work = let s = c.requires in c.loop-found.invariant.1 s.case s.laid s.grown in
    let room : stem_at < c.loop-found.at = stem_room _ _ _ _ _ here c.loop-found-test.true in
    rw c.store_number.ensures
    (kept_more _ _ _ _ c.loop-found.invariant.0 (kept_set _ _ _ _ (omega (arith, room))), λ q d r. stem_step q _ _ _ _ (c.loop-found.invariant.1 q d r) c.loop-found-test.true _ c.load_below-v.ensures.0 _ c.load_below-found-in-loop-found.ensures.0)

pub returns : goal.returns
unfolding StemTaken
returns c = (c.loop-found.invariant.0, λ q d r. stem_done q _ _ _ _ (c.loop-found.invariant.1 q d r) (omega arith))
