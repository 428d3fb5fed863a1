-- `write_edges` meets its contract: at each turn i lines are written.
use Rattle.search.proofs.Answers.{EdgesDone}
use Rattle.search.proofs.answer.write_edges.Given as goal

abbrev pub invariant-loop-i : goal.invariant-loop-i
invariant-loop-i l = EdgesDone l.base l.count l.i l.work l.initial.page l.page
