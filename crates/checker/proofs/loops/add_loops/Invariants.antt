-- `checker::loops::add_loops`: the loops of the vertices before v stand behind the edges, and those of the others are to come.
use mathlib.Core.List.{List}
use Prim.Native.Nat.{◌+◌, ◌≤◌}
use Rattle.model.specs.Graph.{Edge}
use Rattle.checker.specs.Checking.{Ends}
use Rattle.checker.proofs.RestLoops.{Adding}
use Rattle.checker.proofs.loops.add_loops.Given as goal

abbrev pub invariant-loop-v : goal.invariant-loop-v
invariant-loop-v l = (l.k ≤ l.fn.case.edges + l.v) × ((es : List Edge) → Ends es l.fn.case.edges l.initial.froms l.initial.tos → Adding l.fn.case.vertices es l.v l.k l.froms l.tos)
