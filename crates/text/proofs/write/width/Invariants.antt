-- `width` meets its contract: at each turn n digits are counted, and w is what stands before them with the last of them.
use Rattle.text.proofs.Decimals.{Counted}
use Rattle.text.proofs.write.width.Given as goal

abbrev pub invariant-loop-w : goal.invariant-loop-w
invariant-loop-w l = Counted l.v l.w l.n

abbrev pub decreases-loop-w : goal.decreases-loop-w
decreases-loop-w l = l.w
