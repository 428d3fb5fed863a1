-- `read::next_line` meets its contract: the place past the line stays the same as the loop goes on in it. Assumes nothing.
use mathlib.Core.Path.{◌≡◌}
use Rattle.text.specs.Reading.{past_line}
use Rattle.text.proofs.read.next_line.Given as goal

abbrev pub invariant-loop-e : goal.invariant-loop-e
invariant-loop-e l = past_line l.text l.e ≡ past_line l.text l.at
