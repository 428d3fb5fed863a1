-- `rounds::insert` meets its contract: the numbers from i on have moved up by one. Assumes nothing.
use Rattle.search.proofs.Inserts.{Shifting}
use Rattle.search.proofs.rounds.insert.Given as goal

abbrev pub invariant-loop-i : goal.invariant-loop-i
invariant-loop-i l = Shifting l.many l.h l.initial.list l.i l.list
