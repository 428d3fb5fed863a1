-- `write_vertices` meets its contract: at each turn the lines of v vertices are written.
use Rattle.search.proofs.Answers.{VerticesDone}
use Rattle.search.proofs.answer.write_vertices.Given as goal

abbrev pub invariant-loop-v : goal.invariant-loop-v
invariant-loop-v l = VerticesDone l.n l.v l.work l.initial.page l.page
