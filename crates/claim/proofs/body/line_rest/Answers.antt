-- `body::line_rest` meets its contract: a law for each return. Assumes nothing.
use mathlib.Core.List.{[]}
use Rattle.claim.proofs.Variants.{handed_on}
use Rattle.claim.proofs.BodyWhole.{rest_unmarked, rest_whole}
use Rattle.claim.proofs.body.line_rest.Goals as goal

pub returns-in_err-named : goal.returns-in_err-named
returns-in_err-named c = rw (handed_on c.from_residual.ensures) (λ is ls en ek. c.in_err-named.ensures is ls)

pub returns-in_err-marked : goal.returns-in_err-marked
returns-in_err-marked c =
    let a = c.args in
    rw (handed_on c.from_residual-in_err-marked.ensures) (rest_unmarked a.text.now a.states a.count a.c a.at a.cells.now c.title.new.cells _ c.in_ok-named.ensures [] _ c.in_err-marked.ensures [])

pub returns : goal.returns
returns c =
    let a = c.args in
    rest_whole a.text.now a.states a.count a.c a.at a.cells.now _ _ c.in_ok-named.ensures _ _ c.in_ok-marked.ensures _ c.edges.result c.edges.ensures
