-- `reached` meets its contract: at each turn k of v vertices have a distance.
use Rattle.search.proofs.Answers.{Counted}
use Rattle.search.proofs.answer.reached.Given as goal

abbrev pub invariant-loop-v : goal.invariant-loop-v
invariant-loop-v l = Counted l.n l.v l.k l.work
