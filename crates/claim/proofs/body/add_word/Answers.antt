-- `body::add_word` meets its contract: a cell at a time, where the word has some bits and not all. Assumes nothing.
use native.Mathlib.Omega.{arith}
use Rattle.claim.proofs.Bits.{bit_digit}
use Rattle.claim.proofs.MoveCode.{adding_none, adding_more, adding_all, no_bit_added}
use Rattle.claim.proofs.body.add_word.Goals as goal

pub returns-then-word-eq0 : goal.returns-then-word-eq0
returns-then-word-eq0 c = rw c.if-word-eq0.true (no_bit_added _ _ _)

pub returns-then-word-eq-ALL : goal.returns-then-word-eq-ALL
returns-then-word-eq-ALL c = rw c.if-word-eq-ALL.true c.add_all.ensures

pub loop-i-init : goal.loop-i-init
loop-i-init c = adding_none _ _ _ _

pub loop-i-preserved : goal.loop-i-preserved
loop-i-preserved c =
    let a = c.loop-i.invariant in
    adding_more a _ (λ e. bit_digit _ _ _ e c.requires.d_bound) (omega (arith, c.requires.first_in_bounds, a.long)) c.loop-i-test.true

pub shape_of-cells : goal.shape_of-cells
shape_of-cells c = c.loop-i.invariant.long

pub returns : goal.returns
returns c = adding_all c.loop-i.invariant c.loop-i-test.false
