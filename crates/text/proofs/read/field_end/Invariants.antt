-- `read::field_end` meets its contract: the place where the field ends stays the same as the loop goes on in it. Assumes nothing.
use mathlib.Core.Path.{◌≡◌}
use Prim.Native.Nat.{◌+◌}
use lib.ListN.{length}
use Rattle.text.specs.Reading.{field_here}
use Rattle.text.proofs.read.field_end.Given as goal

abbrev pub invariant-loop-e : goal.invariant-loop-e
invariant-loop-e l = l.e + length (field_here l.text l.e) ≡ l.at + length (field_here l.text l.at)
