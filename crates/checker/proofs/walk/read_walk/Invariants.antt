-- `checker::walk::read_walk`: what is left of the lines decides as the whole does.
use Rattle.checker.proofs.Walks.{Walking}
use Rattle.checker.proofs.walk.read_walk.Given as goal

abbrev pub invariant-loop : goal.invariant-loop
invariant-loop l = Walking l.text l.at l.count l.start l.graph l.counter l.walk
