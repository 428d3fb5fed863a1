-- `copy_to` meets its contract: at each turn i bytes are copied.
use Rattle.text.proofs.Writing.{Copied}
use Rattle.text.proofs.write.copy_to.Given as goal

abbrev pub invariant-loop-i : goal.invariant-loop-i
invariant-loop-i l = Copied l.at l.bytes l.i l.initial.output l.output
