-- `checker::loops::mark_starts`: the vertices that the edges before e leave are marked.
use Rattle.checker.specs.Checking.{Starts}
use Rattle.checker.proofs.loops.mark_starts.Given as goal

abbrev pub invariant-loop-e : goal.invariant-loop-e
invariant-loop-e l = Starts l.e l.froms l.starts
