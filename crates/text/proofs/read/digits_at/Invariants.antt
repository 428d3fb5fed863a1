-- `read::digits_at` meets its contract: the digits up to a place are read, and those from there on are left. Assumes nothing.
use Rattle.text.proofs.Digits.{ReadingDigits}
use Rattle.text.proofs.read.digits_at.Given as goal

abbrev pub invariant-loop-e : goal.invariant-loop-e
invariant-loop-e l = ReadingDigits l.text l.at l.v l.e
