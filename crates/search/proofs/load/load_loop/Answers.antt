-- `search::load::load_loop`: one vertex's cell of REST, and the ends of its loop if the file has no edge from it.
use native.Mathlib.Omega.{arith}
use Rattle.search.specs.Loading.{LoopSays}
use Rattle.search.proofs.RestLoops.{first_is, room, loop_none, loop_one}
use Rattle.search.proofs.load.load_loop.Goals as goal

pub store_number-requires : goal.store_number-requires
store_number-requires c = let s = c.requires in (omega (arith, s.below, s.looping.filed.within.vertices, s.looping.filed.long), omega (arith, room s.looping s.below))

pub returns-then-first-end : goal.returns-then-first-end
unfolding LoopSays
returns-then-first-end c =
    λ q l h.
    let p = first_is l h _ _ (omega arith) c.load_below-first.ensures.0 in
    let r = first_is l h _ _ (omega arith) c.load_below-end.ensures.0 in
    rw c.store_number.ensures (loop_none l h (omega (arith, p, r, c.if-first-end.true)))

pub overflow_add-k : goal.overflow_add-k
overflow_add-k c =
    let s = c.requires in
    omega (arith, room s.looping s.below)

pub store_number-requires-2 : goal.store_number-requires-2
store_number-requires-2 c =
    let s = c.requires in
    (omega (arith, room s.looping s.below, s.looping.filed.long, c.store_number.auto.work), omega (arith, s.below, s.looping.filed.within.vertices))

pub overflow_add-k-2 : goal.overflow_add-k-2
overflow_add-k-2 c =
    let s = c.requires in
    omega (arith, room s.looping s.below)

pub store_number-requires-3 : goal.store_number-requires-3
store_number-requires-3 c =
    let s = c.requires in
    (omega (arith, room s.looping s.below, s.looping.filed.long, c.store_number.auto.work, c.store_number-2.auto.work), omega (arith, s.below, s.looping.filed.within.vertices))

pub overflow_add-result : goal.overflow_add-result
overflow_add-result c =
    let s = c.requires in
    omega (arith, room s.looping s.below)

pub returns : goal.returns
unfolding LoopSays
returns c =
    λ q l h.
    let p = first_is l h _ _ (omega arith) c.load_below-first.ensures.0 in
    let r = first_is l h _ _ (omega arith) c.load_below-end.ensures.0 in
    rw (c.store_number-3.ensures, c.store_number-2.ensures, c.store_number.ensures) (loop_one l h (omega (arith, p, r, c.if-first-end.false)))
