-- `body::add_all` meets its contract: a cell at a time. Assumes nothing.
use native.Mathlib.Omega.{arith}
use Rattle.claim.proofs.MoveCode.{adding_none, adding_more, bit_of_all, adding_all}
use Rattle.claim.proofs.body.add_all.Goals as goal

pub loop-i-init : goal.loop-i-init
loop-i-init c = adding_none _ _ _ _

pub loop-i-preserved : goal.loop-i-preserved
loop-i-preserved c =
    let a = c.loop-i.invariant in
    let h = c.loop-i-test.true in
    adding_more a _ (λ e. bit_of_all _ _ e c.requires.d_bound h) (omega (arith, c.requires.first_in_bounds, a.long)) h

pub shape_of-cells : goal.shape_of-cells
shape_of-cells c = c.loop-i.invariant.long

pub returns : goal.returns
returns c = adding_all c.loop-i.invariant c.loop-i-test.false
