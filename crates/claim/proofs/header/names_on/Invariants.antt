-- `header::names_on` meets its contract: so many names are left. Assumes nothing.
use Prim.Native.Nat.{◌-◌}
use Rattle.claim.proofs.HeaderItems.{NamesSoFar}
use Rattle.claim.proofs.header.names_on.Given as goal

abbrev pub invariant-loop : goal.invariant-loop
invariant-loop l = NamesSoFar l.text l.at l.count (l.count - l.counter) l.here
