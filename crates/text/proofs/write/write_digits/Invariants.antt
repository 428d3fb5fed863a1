-- `write_digits` meets its contract: the digits from place i on are written, and w holds those before them.
use Rattle.text.proofs.Decimals.{Written}
use Rattle.text.proofs.write.write_digits.Given as goal

abbrev pub invariant-loop-i : goal.invariant-loop-i
invariant-loop-i l = Written l.at l.v l.w l.i l.initial.output l.output
