-- `search::edges::edges_of`: the file's range where it is not empty, else the rest loop.
use native.Mathlib.Omega.{arith}
use Rattle.search.specs.Asks.{RangeSays}
use Rattle.search.proofs.Ranges.{first_is, rest_is}
use Rattle.search.proofs.edges.edges_of.Goals as goal

pub returns-then-first-end : goal.returns-then-first-end
unfolding RangeSays
returns-then-first-end c =
    λ q laid h.
    let p = first_is q _ _ laid (omega arith) _ c.load_below-first.ensures.0 in
    let r = first_is q _ _ laid (omega arith) _ c.load_below-end.ensures.0 in
    rw (p, r) at (laid.rests.goes_on _ h (omega (arith, p, r, c.if-first-end.true)))

pub returns : goal.returns
unfolding RangeSays
returns c =
    λ q laid h.
    let p = first_is q _ _ laid (omega arith) _ c.load_below-first.ensures.0 in
    let r = first_is q _ _ laid (omega arith) _ c.load_below-end.ensures.0 in
    rw (rest_is _ laid h _ c.load_below-rest.ensures.0) at (laid.rests.rests _ h (omega (arith, p, r, c.if-first-end.false)))
